-- The words of the command, and what they tell a run.
use Rattle.std.specs.Prelude.{◌≡◌, ◌≤◌, ◌<◌, ◌==◌, ◌^◌, ◌+◌, ℕ, ◌++◌, Bool, false, true, not, IsTrue, List, [], ◌∷◌, length, flat_map, Option, Some, None, if◌then◌else◌, codes}
use Rattle.std.specs.List.{AllByRecursion}
use Rattle.std.specs.Int.{IsInRange}
use Rattle.std.specs.Str.Parse.{IsNumeral, digits_value}
use Rattle.flow_values.specs.Path.{Bytes}
use Rattle.command_words.specs.declared.command.Command.{Command}
use Rattle.command_words.specs.declared.command.Form.{Form}
use Rattle.command_words.specs.declared.command.Form.TheVariants.{Folder, Generated}
use Rattle.command_words.specs.declared.command.Setting.{Setting}
use Rattle.command_words.specs.declared.command.Setting.TheVariants as setting

-- the name of a setting
abbrev pub name_of : Setting → Bytes
name_of setting.Workers = codes "--workers"
name_of setting.Lanes = codes "--lanes"
name_of setting.Modules = codes "--modules"
name_of setting.Generated = codes "--gen"
name_of setting.Seed = codes "--seed"

-- the same setting
abbrev pub same_setting : Setting → Setting → Bool
same_setting setting.Workers setting.Workers = true
same_setting setting.Lanes setting.Lanes = true
same_setting setting.Modules setting.Modules = true
same_setting setting.Generated setting.Generated = true
same_setting setting.Seed setting.Seed = true
same_setting s t = false

-- What the words are, in any order: the folder's word, and settings with their numbers, each `--name=value` or `--name value`.
pub data Piece : Type 0 where
  root : Bytes → Piece
  joined : Setting → Bytes → Piece
  apart : Setting → Bytes → Piece

abbrev pub words_of : Piece → List Bytes
words_of (root word) = word ∷ []
words_of (joined s value) = (name_of s ++ (61 ∷ value)) ∷ []
words_of (apart s value) = name_of s ∷ value ∷ []

-- a word that names a folder: it is not empty and does not begin with `-`
abbrev pub is_root : Bytes → Bool
is_root [] = false
is_root (b ∷ word) = not (b == 45)

-- 1 to 20 decimal digits
abbrev pub IsDigits : Bytes → Type 0
IsDigits value = IsNumeral 10 value × (length value ≤ 20)

abbrev pub IsPiece : Piece → Type 0
IsPiece (root word) = IsTrue (is_root word)
IsPiece (joined s value) = IsDigits value
IsPiece (apart s value) = IsDigits value

-- what is told: a setting's number, or the place of the folder's word
pub data Told : Type 0 where
  the_root : Told
  the : Setting → Told

-- what a piece at a place tells of it
abbrev pub told_by : Told → ℕ → Piece → List ℕ
told_by the_root place (root word) = place ∷ []
told_by (the s) place (joined t value) = if same_setting s t then digits_value 10 value ∷ [] else []
told_by (the s) place (apart t value) = if same_setting s t then digits_value 10 value ∷ [] else []
told_by what place piece = []

-- and all pieces, the first of which is at a place
abbrev pub told_from : Told → ℕ → List Piece → List ℕ
told_from what place [] = []
told_from what place (piece ∷ pieces) = told_by what place piece ++ told_from what (place + length (words_of piece)) pieces

-- a number that is told once, or not at all and is the default one then
abbrev pub IsOr : List ℕ → ℕ → ℕ → Type 0
IsOr [] default n = n ≡ default
IsOr (told ∷ []) default n = n ≡ told
IsOr more default n = ⊥

-- a folder's word and no number of the generator, or no folder's word and both its numbers
abbrev pub IsForm : List ℕ → List ℕ → List ℕ → ℕ → Form → Type 0
IsForm (place ∷ []) [] [] most form = form ≡ Folder place
IsForm [] (n ∷ []) (x ∷ []) most form = (form ≡ Generated n x) × IsInRange 1 most n × (x < 2 ^ 64)
IsForm roots numbers seeds most form = ⊥

-- what is told once at most makes this command
pub record Tells (told : Told → List ℕ) (c : Command) : Type 0 where
  pub workers : IsOr (told (the setting.Workers)) 4 c.workers
  pub some_workers : IsInRange 1 64 c.workers
  pub lanes : IsOr (told (the setting.Lanes)) 2 c.lanes
  pub some_lanes : IsInRange 1 16 c.lanes
  pub modules : IsOr (told (the setting.Modules)) 1024 c.modules
  pub some_modules : IsInRange 1 4096 c.modules
  pub form : IsForm (told the_root) (told (the setting.Generated)) (told (the setting.Seed)) c.modules c.form

-- the words are of the command, and tell this
pub record Says (words : List Bytes) (c : Command) : Type 0 where
  pub pieces : List Piece
  pub spelled : flat_map words_of pieces ≡ words
  pub each : AllByRecursion IsPiece pieces
  pub tells : Tells (λ what. told_from what 0 pieces) c

-- the words are of the command
abbrev pub AreOfCommand : List Bytes → Type 0
AreOfCommand words = (c : Command) × Says words c

-- the place of the folder's word, or `None` where the modules are generated
abbrev pub place_in : Form → Option ℕ
place_in (Folder place) = Some place
place_in (Generated n x) = None

abbrev pub place_of : Command → Option ℕ
place_of c = place_in c.form

-- what is printed where the words are not of the command
abbrev pub usage_line : Bytes
usage_line = codes "usage: flowd ROOT | --gen N --seed X [--workers N] [--lanes R] [--modules M]" ++ 10 ∷ []
