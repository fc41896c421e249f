-- The modules of the names in a type, by its parts.
use Rattle.std.proofs.Common.{ap₂, ◌≡◌, ℕ, ◌+◌, ◌<◌, List, ◌++◌, length, take, get_or, sym, ap, ◌∙◌, append_assoc}
use Rattle.std.specs.List.{flat_map}
use Rattle.check_values.specs.Rows.{Bytes}
use Rattle.type_values.specs.declared.types.FlowType.{FlowType}
use Rattle.type_values.specs.declared.types.FlowType as made
use Rattle.type_values.specs.declared.types.Param.{Param, out-Param}
use Rattle.check_values.specs.declared.signatures.Export.{Export}
use Rattle.check_values.specs.declared.signatures.Sig.{Sig}
use Rattle.merged_signatures.specs.Reach.{paths_in, paths_of_export, paths_named}
use Rattle.named_rows.proofs.Lists.{flat_more}
pub use Rattle.named_modules.proofs.PathsIn.{type_parts}
use Rattle.named_modules.proofs.PathsIn.{function_paths}

-- the modules of the parameters, and then those of the result
pub function_added : (t : FlowType) (params inner : List Param) (result last : FlowType) (start middle all : List Bytes) → t ≡ made.Function params result → inner ≡ params → last ≡ result
    → middle ≡ start ++ flat_map (λ p. paths_in (out-Param p).ty) inner → all ≡ middle ++ paths_in last → all ≡ start ++ paths_in t
function_added t params inner result last start middle all is same_params same_result before after =
    after ∙ ap (λ (l : List Bytes). l ++ paths_in last) before ∙ append_assoc start (flat_map (λ p. paths_in (out-Param p).ty) inner) (paths_in last)
    ∙ ap (λ (l : List Bytes). start ++ l)
    (ap (λ (ps : List Param). flat_map (λ p. paths_in (out-Param p).ty) ps ++ paths_in last) same_params ∙ ap (λ (u : FlowType). flat_map (λ p. paths_in (out-Param p).ty) params ++ paths_in u) same_result ∙ sym (function_paths params result) ∙ ap paths_in (sym is))

-- those of one element more
pub next : {A : Type 0} (f : A → List Bytes) (xs : List A) (i : ℕ) (x : A) (start before after : List Bytes) → i < length xs → x ≡ get_or xs i x → before ≡ start ++ flat_map f (take i xs) → after ≡ before ++ f x
    → after ≡ start ++ flat_map f (take (i + 1) xs)
next {A} f xs i x start before after within is so_far adds =
    adds ∙ ap (λ (l : List Bytes). l ++ f x) so_far ∙ append_assoc start (flat_map f (take i xs)) (f x)
    ∙ sym (ap (λ (l : List Bytes). start ++ l) (flat_more f xs i x within ∙ ap (λ (y : A). flat_map f (take i xs) ++ f y) (sym is)))

-- those of a signature
pub named_added : (s : Sig) (exports : List (Bytes × Export)) (aliases : List (Bytes × FlowType)) (start middle all : List Bytes) → exports ≡ s.exports → aliases ≡ s.aliases
    → middle ≡ start ++ flat_map (λ row. paths_of_export row.1) exports → all ≡ middle ++ flat_map (λ row. paths_in row.1) aliases → all ≡ start ++ paths_named s
named_added s exports aliases start middle all same_exports same_aliases first second =
    second ∙ ap (λ (l : List Bytes). l ++ flat_map (λ row. paths_in row.1) aliases) first ∙ append_assoc start (flat_map (λ row. paths_of_export row.1) exports) (flat_map (λ row. paths_in row.1) aliases)
    ∙ ap (λ (l : List Bytes). start ++ l)
    (ap₂ (λ (es : List (Bytes × Export)) (xs : List (Bytes × FlowType)). flat_map (λ row. paths_of_export row.1) es ++ flat_map (λ row. paths_in row.1) xs) same_exports same_aliases)
