-- The words in one walk.
use Rattle.std.specs.Prelude.{ℕ, ◌+◌, ◌-◌, ◌^◌, leb, ◌&&◌, ◌==◌, Bool, List, [], ◌∷◌, length, take, drop, Option, Some, None, option_and_then, if◌then◌else◌, bytes_eq}
use Rattle.std.specs.Option.{option_map, is_some}
use Rattle.std.specs.Str.{all_ascii_digits}
use Rattle.std.specs.List.{position_from}
use Rattle.std.specs.Str.Parse.{digits_value}
use Rattle.flow_values.specs.Path.{Bytes}
use Rattle.command_words.specs.declared.command.Command.{Command}
use Rattle.command_words.specs.declared.command.Form.{Form}
use Rattle.command_words.specs.declared.command.Form.TheVariants.{Folder, Generated}
use Rattle.command_words.specs.declared.command.Setting.{Setting}
use Rattle.command_words.specs.declared.command.Setting.TheVariants as setting
use Rattle.command_words.specs.declared.seen.Seen.{Seen}
use Rattle.command_words.specs.Words.{name_of, is_root}

abbrev pub nothing : Seen
nothing = record { waiting = None; root = None; workers = None; lanes = None; modules = None; generated = None; seed = None }

abbrev pub once : Option ℕ → ℕ → Option ℕ
once (Some told) n = None
once None n = Some n

abbrev pub put : Setting → ℕ → Seen → Option Seen
put setting.Workers n seen = option_map (λ told. record seen { workers = Some told }) (once seen.workers n)
put setting.Lanes n seen = option_map (λ told. record seen { lanes = Some told }) (once seen.lanes n)
put setting.Modules n seen = option_map (λ told. record seen { modules = Some told }) (once seen.modules n)
put setting.Generated n seen = option_map (λ told. record seen { generated = Some told }) (once seen.generated n)
put setting.Seed n seen = option_map (λ told. record seen { seed = Some told }) (once seen.seed n)

abbrev pub put_root : ℕ → Seen → Option Seen
put_root place seen = if is_some seen.root then None else Some (record seen { root = Some place })

abbrev pub waits_for : Option Setting → Seen → Seen
waits_for waiting seen = record seen { waiting = waiting }

abbrev pub setting_named : Bytes → Option Setting
setting_named word =
    if bytes_eq word (name_of setting.Workers) then Some setting.Workers else
    if bytes_eq word (name_of setting.Lanes) then Some setting.Lanes else
    if bytes_eq word (name_of setting.Modules) then Some setting.Modules else
    if bytes_eq word (name_of setting.Generated) then Some setting.Generated else
    if bytes_eq word (name_of setting.Seed) then Some setting.Seed else None

abbrev pub is_numeral : Bytes → Bool
is_numeral word = leb 1 (length word) && (leb (length word) 20 && all_ascii_digits word)

abbrev pub number_of : Bytes → Option ℕ
number_of word = if is_numeral word then Some (digits_value 10 word) else None

abbrev pub joined_at : Bytes → Seen → ℕ → Option Seen
joined_at word seen equals =
    option_and_then (λ s. option_and_then (λ n. put s n seen) (number_of (drop (equals + 1) word))) (setting_named (take equals word))

abbrev pub equals_in : Bytes → Option ℕ
equals_in word = position_from (λ b. b == 61) 0 word

abbrev pub joined : Bytes → Seen → Option Seen
joined word seen = option_and_then (joined_at word seen) (equals_in word)

abbrev pub dashed_at : Option Setting → Bytes → Seen → Option Seen
dashed_at (Some s) word seen = Some (waits_for (Some s) seen)
dashed_at None word seen = joined word seen

abbrev pub dashed : Bytes → Seen → Option Seen
dashed word seen = dashed_at (setting_named word) word seen

abbrev pub start : ℕ → Bytes → Seen → Option Seen
start place word seen = if is_root word then put_root place seen else dashed word seen

abbrev pub step_at : Option Setting → ℕ → Bytes → Seen → Option Seen
step_at (Some s) place word seen = option_and_then (λ n. put s n (waits_for None seen)) (number_of word)
step_at None place word seen = start place word seen

abbrev pub step : ℕ → Bytes → Seen → Option Seen
step place word seen = step_at seen.waiting place word seen

-- the words from a place on
abbrev pub walk : ℕ → List Bytes → Seen → Option Seen
walk place [] seen = Some seen
walk place (word ∷ words) seen = option_and_then (walk (place + 1) words) (step place word seen)

abbrev pub in_range : ℕ → ℕ → Option ℕ
in_range most n = if leb 1 n && leb n most then Some n else None

abbrev pub ranged : Option ℕ → ℕ → ℕ → Option ℕ
ranged None default most = Some default
ranged (Some n) default most = in_range most n

abbrev pub generated_form : ℕ → ℕ → ℕ → Option Form
generated_form most n x = if leb 1 n && (leb n most && leb x (2 ^ 64 - 1)) then Some (Generated n x) else None

abbrev pub form_in : Option ℕ → Option ℕ → Option ℕ → ℕ → Option Form
form_in (Some place) None None most = Some (Folder place)
form_in None (Some n) (Some x) most = generated_form most n x
form_in roots numbers seeds most = None

abbrev pub form_of : Seen → ℕ → Option Form
form_of seen most = form_in seen.root seen.generated seen.seed most

abbrev pub finish_with : Seen → ℕ → ℕ → ℕ → Option Command
finish_with seen workers lanes modules = option_map (λ form. record { form = form; workers = workers; lanes = lanes; modules = modules }) (form_of seen modules)

abbrev pub told_in : Seen → Option Command
told_in seen =
    option_and_then (λ workers. option_and_then (λ lanes. option_and_then (finish_with seen workers lanes) (ranged seen.modules 1024 4096)) (ranged seen.lanes 2 16)) (ranged seen.workers 4 64)

abbrev pub finish : Seen → Option Command
finish seen = if is_some seen.waiting then None else told_in seen

abbrev pub command_of : List Bytes → Option Command
command_of words = option_and_then finish (walk 0 words nothing)
