-- Rows of the code, seen as rows of the definitions.
use Rattle.std.proofs.Common.{◌≡◌, ℕ, suc, ◌+◌, ◌<◌, Bool, true, false, cond, List, [], ◌∷◌, ◌++◌, map, length, take, get_or, Option, Some, None, option_map, is_some, bytes_eq, refl, sym, ap, ◌∙◌, subst, arith}
use Rattle.std.proofs.lemmas.List.{take_more, length-take-le, length-map, map-append}
use Rattle.std.specs.Borrow.{Bor}
use Rattle.std.specs.Option.{option_copied, option_and_then}
use Rattle.std.specs.Ordering.{nat_cmp}
use Rattle.std.specs.Cmp.Lexicographic.{slice_cmp}
use Rattle.std.specs.BTreeMap.{BTreeMap, get}
use Rattle.check_values.specs.Rows.{Bytes, Rows, row_at, by_name}
use Rattle.check_values.specs.declared.signatures.ImportRow.{ImportRow}
use Rattle.check_values.specs.declared.signatures.DepRow.{DepRow}
use Rattle.check_values.specs.declared.signatures.Deps.{Deps}
use Rattle.type_values.specs.declared.types.FlowType.{FlowType}
use Rattle.merged_signatures.specs.Chains.{found_in, found}
use Rattle.merged_signatures.specs.Merged.{import_at}
use Rattle.named_rows.specs.Seen.{seen, found_by_spec}
use Rattle.named_rows.proofs.FirstRows.{named}
use Rattle.chain_ends.specs.declared.links.End.{End}
use Rattle.chain_ends.specs.declared.links.Link.{Link}
use Rattle.chain_ends.specs.Following.{AreEnds}
use Rattle.job_ends.specs.declared.job.MergeMember.{MergeMember}
use Rattle.job_ends.specs.declared.member.Member.{Member}
use Rattle.job_ends.specs.declared.nodes.Node as code
use Rattle.job_ends.specs.Jobs.{member_view, imports_by_local}
use Rattle.job_ends.specs.Nodes.{Node, inner_module}
use Rattle.job_ends.specs.Views.{node_view}
use Rattle.job_ends.specs.Linking.{link_of, links_from}

-- ---- maps of rows by name

is_some-map : {A B : Type 0} (f : A → B) (o : Option A) → is_some o ≡ is_some (option_map f o)
is_some-map f None = refl
is_some-map f (Some x) = refl

same_rows : {A : Type 0} (rows : Rows A) → map (λ row. (row.0, row.1)) rows ≡ rows
same_rows [] = refl
same_rows {A} (row ∷ rows) = ap (λ (l : Rows A). row ∷ l) (same_rows rows)

pub aliases_named : (names : BTreeMap Bytes (Bor FlowType)) (rows : Rows (Bor FlowType)) (all aliases : Rows FlowType) → names.entries ≡ by_name rows → seen (λ t. t.now) rows ≡ map (λ row. (row.0, row.1)) all → all ≡ aliases →
    (word : Bytes) → is_some (get (slice_cmp nat_cmp) names word) ≡ is_some (row_at aliases word)
aliases_named names rows all aliases is shown same word =
    is_some-map (λ t. t.now) (get (slice_cmp nat_cmp) names word) ∙ ap is_some (named (λ t. t.now) names rows is word ∙ ap (λ (l : Rows FlowType). row_at l word) (shown ∙ same_rows all ∙ same))

import_row : (rows : List ImportRow) (word : Bytes) → row_at (imports_by_local rows) word ≡ import_at rows word
import_row [] word = refl
import_row (row ∷ rows) word = ap (cond (bytes_eq row.local word) (Some row)) (import_row rows word)

pub imports_named : (names : BTreeMap Bytes (Bor ImportRow)) (rows : Rows (Bor ImportRow)) (all imports : List ImportRow) → names.entries ≡ by_name rows → seen (λ row. row.now) rows ≡ imports_by_local all → all ≡ imports →
    (word : Bytes) → option_copied (get (slice_cmp nat_cmp) names word) ≡ import_at imports word
imports_named names rows all imports is shown same word =
    named (λ row. row.now) names rows is word ∙ ap (λ (l : Rows ImportRow). row_at l word) shown ∙ import_row all word ∙ ap (λ (l : List ImportRow). import_at l word) same

found_row : (rows : List DepRow) (word : Bytes) → option_and_then (λ (o : Option Bytes). o) (row_at (found_by_spec rows) word) ≡ found_in rows word
found_row [] word = refl
found_row (row ∷ rows) word = go (bytes_eq row.spec word) (found_row rows word)
  where
    go : (b : Bool) → option_and_then (λ (o : Option Bytes). o) (row_at (found_by_spec rows) word) ≡ found_in rows word → option_and_then (λ (o : Option Bytes). o) (cond b (Some row.found) (row_at (found_by_spec rows) word)) ≡ cond b row.found (found_in rows word)
    go true rest = refl
    go false rest = rest

then_map : {A B C : Type 0} (f : A → B) (g : B → Option C) (o : Option A) → option_and_then (λ (x : A). g (f x)) o ≡ option_and_then g (option_map f o)
then_map f g None = refl
then_map f g (Some x) = refl

pub founds_named : (names : BTreeMap Bytes (Option (Bor Bytes))) (rows : Rows (Option (Bor Bytes))) (all : List DepRow) (deps : Deps) → names.entries ≡ by_name rows → seen option_copied rows ≡ found_by_spec all → all ≡ deps.rows →
    (word : Bytes) → option_and_then option_copied (get (slice_cmp nat_cmp) names word) ≡ found deps word
founds_named names rows all deps is shown same word =
    then_map option_copied (λ (o : Option Bytes). o) (get (slice_cmp nat_cmp) names word)
    ∙ ap (option_and_then (λ (o : Option Bytes). o)) (named option_copied names rows is word ∙ ap (λ (l : Rows (Option Bytes)). row_at l word) shown) ∙ found_row all word ∙ ap (λ (l : List DepRow). found_in l word) same

-- ---- members and links

pub of_members : (members : List Member) (all : List MergeMember) → map (λ own. own.member.now) members ≡ all → map (λ own. inner_module (member_view own.member.now)) members ≡ map inner_module (map member_view all)
of_members members all is = go members ∙ ap (λ (l : List MergeMember). map inner_module (map member_view l)) is
  where
    go : (members : List Member) → map (λ own. inner_module (member_view own.member.now)) members ≡ map inner_module (map member_view (map (λ own. own.member.now) members))
    go [] = refl
    go (own ∷ members) = ap (λ (l : Rows (Rows Node)). inner_module (member_view own.member.now) ∷ l) (go members)

links_last : (number : Bytes → Bytes → ℕ) (from : ℕ) (nodes : List Node) (node : Node) → links_from number from (nodes ++ node ∷ []) ≡ links_from number from nodes ++ link_of number (from + length nodes) node ∷ []
links_last number from [] node = ap (λ (n : ℕ). link_of number n node ∷ []) (let e : from ≡ from + 0 = omega arith in e)
links_last number from (first ∷ nodes) node =
    ap (λ (l : List Link). link_of number from first ∷ l) (links_last number (suc from) nodes node ∙ ap (λ (n : ℕ). links_from number (suc from) nodes ++ link_of number n node ∷ []) (let e : suc from + length nodes ≡ from + suc (length nodes) = omega arith in e))

-- one node more
pub links_more : (number : Bytes → Bytes → ℕ) (nodes : List code.Node) (i : ℕ) (node : code.Node) → i < length nodes → node ≡ get_or nodes i node → (links links' : List Link) (link : Link) → links ≡ links_from number 0 (map node_view (take i nodes)) → link ≡ link_of number i (node_view node) → links' ≡ links ++ link ∷ [] →
    links' ≡ links_from number 0 (map node_view (take (i + 1) nodes))
links_more number nodes i node within at links links' link is new push =
    push ∙ ap (λ (l : List Link). l ++ link ∷ []) is ∙ ap (λ (x : Link). links_from number 0 (map node_view (take i nodes)) ++ x ∷ []) (new ∙ ap (λ (n : ℕ). link_of number n (node_view node)) count)
    ∙ sym (links_last number 0 (map node_view (take i nodes)) (node_view node))
    ∙ ap (links_from number 0) (sym (map-append node_view (take i nodes) (node ∷ [])) ∙ ap (map node_view) (sym (take_more nodes i node within ∙ ap (λ (x : code.Node). take i nodes ++ x ∷ []) (sym at))))
  where
    count : i ≡ 0 + length (map node_view (take i nodes))
    count = let a = length-map (take i nodes) node_view in let b = length-take-le i nodes (omega (arith, within)) in omega arith

pub same_links : (shown links named : List Link) (ends : List End) → shown ≡ links → links ≡ named → AreEnds shown ends → AreEnds named ends
same_links shown links named ends is told are = subst (λ (l : List Link). AreEnds l ends) (is ∙ told) are
