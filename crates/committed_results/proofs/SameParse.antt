-- What says the same as a parse of a text is one, and whether two parses say the same is one thing.
use Rattle.std.proofs.Common.{◌≡◌, List, [], refl, sym, ap, ◌∙◌, subst}
use Rattle.std.specs.Coded.{coded_list}
use mathlib.Core.Logic.{∥∥₁_elim, ∥∥₁_map}
use denote.Struct.Props.{≡_prop}
use Rattle.flow_values.specs.contracts.span.Span as span_type
use Rattle.flow_values.specs.declared.span.Span.{Span}
use Rattle.check_values.specs.Rows.{Bytes}
use Rattle.check_values.specs.contracts.faults.Fault as fault_type
use Rattle.check_values.specs.contracts.signatures.LocalSig as local_type
use Rattle.check_values.specs.declared.faults.Fault.{Fault}
use Rattle.check_values.specs.declared.signatures.LocalSig.{LocalSig}
use Rattle.js_grammar.specs.Items as g
use Rattle.js_tree.specs.View.{module_view}
use Rattle.js_tree.specs.contracts.items.Module as tree_type
use Rattle.full_law.specs.Trees.{EachModuleHasATree}
use Rattle.local_signatures.specs.LocalSignature.{local_signature}
use Rattle.local_signatures.specs.Faults.{signature_faults}
use Rattle.export_counts.specs.source_front.specs.Front.{HasTree, HasFault, Says, IsParse}
use Rattle.export_counts.specs.source_front.specs.Law.{Seen, whole, broken, seen, Same}
use Rattle.export_counts.specs.source_front.specs.contracts.parse.SourceFault as source_fault_type
use Rattle.export_counts.specs.source_front.specs.declared.parse.SourceFault.{SourceFault}
use Rattle.export_counts.specs.source_front.specs.declared.parse.ParseTree.{ParseTree}
use Rattle.export_counts.specs.source_front.specs.declared.parse.ParseTree.TheVariants.{Tree, Broken}
use Rattle.export_counts.specs.source_front.specs.declared.parse.Parse.{Parse}

-- ---- what says the same is a parse

says : (text : Bytes) (s t : ParseTree) (sig other : LocalSig) (faults others : List Fault) → seen s ≡ seen t → sig ≡ other → faults ≡ others → Says text t other others → Says text s sig faults
says text (Tree m spans) (Tree n places) sig other faults others e is_sig are is =
    let views : module_view m ≡ module_view n = cc in
    let same : spans ≡ places = cc in (
      subst (λ (v : g.Module). HasTree text v spans) (sym views) (subst (λ (l : List Span). HasTree text (module_view n) l) (sym same) is.0),
      is_sig ∙ (is.1 ∙ ap local_signature (sym views)),
      are ∙ (is.2 ∙ (λ j. signature_faults (sym views j) (sym same j))),
    )
says text (Tree m spans) (Broken f) sig other faults others e is_sig are is = absurd (let z : seen (Tree m spans) ≡ seen (Broken f) = e in cc)
says text (Broken f) (Tree n places) sig other faults others e is_sig are is = absurd (let z : seen (Broken f) ≡ seen (Tree n places) = e in cc)
says text (Broken f) (Broken k) sig other faults others e is_sig are is =
    let same : f ≡ k = cc in
    (subst (HasFault text) (sym same) is.0, is_sig ∙ is.1, are ∙ is.2)

pub says_same : (text : Bytes) (a b : Parse) → Same a b → IsParse text b → IsParse text a
says_same text a b same is = says text a.tree b.tree a.sig b.sig a.faults b.faults same.0 same.1 same.2 is

-- ---- whether they say the same is one thing

module _ (trees : EachModuleHasATree) where
  -- by the trees of the code, which are coded
  module_once : (m n : g.Module) → ∥ m ≡ n ∥₁ → m ≡ n
  module_once m n same =
      let a = trees m in
      let b = trees n in
      let path : a.0 ≡ b.0 = ∥∥₁_elim same (≡_prop tree_type.the_row.coded a.0 b.0) (λ (e : m ≡ n). ap (λ (k : g.Module). (trees k).0) e) in
      sym a.1 ∙ (ap module_view path ∙ b.1)

  no_tree : (a b : Seen) → ∥ a ≡ b ∥₁ → (a ≡ b → ⊥) → ⊥
  no_tree a b same never = let once : IsProp ⊥ = hlevel in ∥∥₁_elim same once never

  seen_once : (a b : ParseTree) → ∥ seen a ≡ seen b ∥₁ → seen a ≡ seen b
  seen_once (Tree m spans) (Tree n others) same =
      let views = module_once (module_view m) (module_view n) (∥∥₁_map same (λ (e : seen (Tree m spans) ≡ seen (Tree n others)). let v : module_view m ≡ module_view n = cc in v)) in
      let places : spans ≡ others = ∥∥₁_elim same (≡_prop (coded_list span_type.the_row.coded) spans others) (λ (e : seen (Tree m spans) ≡ seen (Tree n others)). let l : spans ≡ others = cc in l) in
      λ j. whole (views j) (places j)
  seen_once (Tree m spans) (Broken f) same = absurd (no_tree (seen (Tree m spans)) (seen (Broken f)) same (λ (e : seen (Tree m spans) ≡ seen (Broken f)). let z : ⊥ = cc in z))
  seen_once (Broken f) (Tree n others) same = absurd (no_tree (seen (Broken f)) (seen (Tree n others)) same (λ (e : seen (Broken f) ≡ seen (Tree n others)). let z : ⊥ = cc in z))
  seen_once (Broken f) (Broken k) same =
      let one : f ≡ k = ∥∥₁_elim same (≡_prop source_fault_type.the_row.coded f k) (λ (e : seen (Broken f) ≡ seen (Broken k)). let z : f ≡ k = cc in z) in
      ap broken one

  pub same_once : (a b : Parse) → ∥ Same a b ∥₁ → Same a b
  same_once a b same = (
    seen_once a.tree b.tree (∥∥₁_map same (λ (s : Same a b). s.0)),
    ∥∥₁_elim same (≡_prop local_type.the_row.coded a.sig b.sig) (λ (s : Same a b). s.1),
    ∥∥₁_elim same (≡_prop (coded_list fault_type.the_row.coded) a.faults b.faults) (λ (s : Same a b). s.2),
  )
