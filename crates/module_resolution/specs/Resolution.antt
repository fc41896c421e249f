-- Which module a specifier finds.
use Rattle.std.specs.Prelude.{Bool, false, ◌||◌, List, [], ◌∷◌, ◌++◌, reverse, drop, find, Option, Some, None, if◌then◌else◌, codes}
use Rattle.std.specs.List.{join_with_byte}
use Rattle.std.specs.Str.{bytes_eq}
use Rattle.flow_values.specs.Path.{Bytes, SLASH}
use Rattle.flow_values.specs.PathForm.{cut}
use Rattle.check_values.specs.Rows.{is_among}

-- the part that stays in a folder
abbrev pub stays : Bytes → Bool
stays part = bytes_eq part (codes ".")

-- the part that goes up
abbrev pub goes_up : Bytes → Bool
goes_up part = bytes_eq part (codes "..")

-- the parts of a folder, the innermost first
abbrev pub Folder : Type 0
Folder = List Bytes

-- the folder in which a module stands
abbrev pub folder_of : Bytes → Folder
folder_of path = drop 1 (reverse (cut path))

-- the folder round a folder; the root has none
abbrev pub above : Folder → Option Folder
above [] = None
above (inner ∷ outer) = Some outer

-- one part applied to a folder; an empty part, or going above the root, leads nowhere
abbrev pub applied : Folder → Bytes → Option Folder
applied folder [] = None
applied folder (b ∷ bytes) =
    if stays (b ∷ bytes) then Some folder else if goes_up (b ∷ bytes) then above folder else Some ((b ∷ bytes) ∷ folder)

-- parts applied one after another
abbrev pub all_applied : Option Folder → List Bytes → Option Folder
all_applied folder [] = folder
all_applied None (part ∷ parts) = None
all_applied (Some folder) (part ∷ parts) = all_applied (applied folder part) parts

-- the path with these parts
abbrev pub path_to : Folder → Bytes
path_to folder = join_with_byte SLASH (reverse folder)

-- where a specifier leads: the place itself, with `.js`, or `index.js` in it; at the root `index.js` alone
abbrev pub candidates_at : Option Folder → List Bytes
candidates_at None = []
candidates_at (Some []) = codes "index.js" ∷ []
candidates_at (Some (inner ∷ outer)) =
    path_to (inner ∷ outer) ∷ (path_to (inner ∷ outer) ++ codes ".js") ∷ (path_to (inner ∷ outer) ++ codes "/index.js") ∷ []

-- a specifier leads somewhere where its first part is `.` or `..`
abbrev pub is_relative : List Bytes → Bool
is_relative [] = false
is_relative (first ∷ more) = stays first || goes_up first

-- the paths that a specifier may find from a module, the first one first
abbrev pub candidates : Bytes → Bytes → List Bytes
candidates from spec = if is_relative (cut spec) then candidates_at (all_applied (Some (folder_of from)) (cut spec)) else []

-- the first candidate among the paths of a program
abbrev pub resolved : List Bytes → Bytes → Bytes → Option Bytes
resolved paths from spec = find (is_among paths) (candidates from spec)
