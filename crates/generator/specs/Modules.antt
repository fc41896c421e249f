-- The modules that are generated, and their edits.
use Rattle.std.specs.Prelude.{ℕ, zero, suc, ◌==◌, ◌||◌, Bool, List, [], ◌++◌, map, codes, if◌then◌else◌}
use Rattle.std.specs.Fmt.{decimal}
use Rattle.std.specs.List.{range_with_len}
use Rattle.flow_values.specs.Path.{Bytes}
use Rattle.generator.specs.Draws.{imported, edited}

-- m<i>.js
abbrev pub path_of : ℕ → Bytes
path_of i = codes "m" ++ (decimal i ++ codes ".js")

-- what only the modules behind the first one have
abbrev pub linked : ℕ → Bytes → Bytes
linked zero text = []
linked (suc i) text = text

abbrev pub linked_type : ℕ → ℕ → Bytes
linked_type i j = linked i (codes ", b: ?T" ++ decimal j)

abbrev pub linked_value : ℕ → Bytes
linked_value i = linked i (codes ", b: null")

-- what only rounds 3, 6 and 9 have
abbrev pub widens : ℕ → Bool
widens round = round == 3 || (round == 6 || round == 9)

abbrev pub wider_type : ℕ → Bytes
wider_type round = if widens round then codes ", c: number" else []

abbrev pub wider_value : ℕ → Bytes
wider_value round = if widens round then codes ", c: " ++ decimal round else []

-- import type {T<j>} from './m<j>';
abbrev pub import_line : ℕ → ℕ → Bytes
import_line i j = linked i (codes "import type {T" ++ (decimal j ++ (codes "} from './m" ++ (decimal j ++ codes "';\n"))))

-- export type T<i> = {a: number, b: ?T<j>, c: number};
abbrev pub type_line : ℕ → ℕ → ℕ → Bytes
type_line i j round =
    codes "export type T" ++ (decimal i ++ (codes " = {a: number" ++ (linked_type i j ++ (wider_type round ++ codes "};\n"))))

-- export const v<i>: T<i> = {a: <i>, b: null, c: <round>};
abbrev pub value_line : ℕ → ℕ → Bytes
value_line i round =
    codes "export const v" ++ (decimal i ++ (codes ": T" ++ (decimal i ++ (codes " = {a: " ++ (decimal i ++ (linked_value i ++ (wider_value round ++ codes "};\n")))))))

-- export function f<i>(x: T<i>): number { return x.a + <round>; }
abbrev pub function_line : ℕ → ℕ → Bytes
function_line i round =
    codes "export function f" ++ (decimal i ++ (codes "(x: T" ++ (decimal i ++ (codes "): number { return x.a + " ++ (decimal round ++ codes "; }\n")))))

-- the text of module i, which imports module j, in a round; round 0 is the load
abbrev pub text_of : ℕ → ℕ → ℕ → Bytes
text_of i j round = import_line i j ++ (type_line i j round ++ (value_line i round ++ function_line i round))

-- module i in a round
abbrev pub module_in : ℕ → ℕ → ℕ → Bytes × Bytes
module_in seed i round = (path_of i, text_of i (imported seed i) round)

-- the modules of the load, and the ten edits
abbrev pub modules_of : ℕ → ℕ → List (Bytes × Bytes)
modules_of n seed = map (λ i. module_in seed i 0) (range_with_len 0 n)

abbrev pub edits_of : ℕ → ℕ → List (Bytes × Bytes)
edits_of n seed = map (λ round. module_in seed (edited n seed round) round) (range_with_len 1 10)
