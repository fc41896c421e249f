-- A module's own path has just the aliases of its tree.
use Rattle.std.proofs.Common.{◌≡◌, Bool, true, false, cond, List, [], ◌∷◌, map, Option, Some, None, option_map, bytes_eq, refl, sym, ap, ◌∙◌, subst}
use Rattle.std.specs.Option.{option_or}
use Rattle.std.specs.Cmp.Lexicographic.{bytes_decides}
use Rattle.flow_base.specs.Program.{Bytes, Program, paths_of}
use Rattle.check_values.specs.Rows.{row_at}
use Rattle.check_values.specs.declared.faults.Fault.{Fault}
use Rattle.check_values.specs.declared.signatures.LocalSig.{LocalSig}
use Rattle.check_values.specs.declared.signatures.Sig.{Sig}
use Rattle.js_grammar.specs.Items.{Module}
use Rattle.type_values.specs.declared.types.FlowType.{FlowType}
use Rattle.alias_table.specs.Aliases.{Key}
use Rattle.program_check.specs.check_job.specs.errors_by_reach.specs.local_signatures.specs.Scope.{scope_of}
use Rattle.program_check.specs.check_job.specs.errors_by_reach.specs.local_signatures.specs.LocalSignature.{local_signature}
use Rattle.program_check.specs.check_job.specs.errors_by_reach.specs.module_errors.specs.merged_signatures.specs.Chains.{View}
use Rattle.program_check.specs.check_job.specs.errors_by_reach.specs.module_errors.specs.merged_signatures.specs.Merged.{merged_known, merged}
use Rattle.program_check.specs.source_front.specs.declared.parse.ParseTree.{ParseTree}
use Rattle.program_check.specs.source_front.specs.declared.parse.ParseTree.TheVariants.{Tree, Broken}
use Rattle.program_check.specs.source_front.specs.Front.{Says}
use Rattle.program_check.specs.check_job.specs.js_tree.specs.View.{module_view}
use Rattle.program_check.specs.check_job.specs.errors_by_reach.specs.Seen.{Sigs, meaning_in, own_alias, own_type, alias_told, alias_type}
use Rattle.program_check.specs.Full.{Results, beside, known_of, view_in, sigs_in, module_in, AreResultsOf, AreResults, IsFull}
use Rattle.own_alias_law.specs.Own.{IsTreeAt, plain_type, SignatureSaysTheSame, OwnAliasesAreTheTrees, SoByReach}
use Rattle.own_alias_law.proofs.Rows.{some_same}
use Rattle.own_alias_law.proofs.Signed.{known_by, InTree, signed}

-- ---- what a full check says of a path

module _ (paths : List Bytes) (view : View) (sigs : Sigs) where
  stands : (program : Program) (results : List Results) (path : Bytes) (r : Results) → AreResults paths view sigs program results → row_at (beside program results) path ≡ Some r → (text : Bytes) × AreResultsOf paths view sigs path text r
  stands [] results path r are at = absurd (let z : None ≡ Some r = at in cc)
  stands (m ∷ program) [] path r are at = absurd are
  stands (m ∷ program) (x ∷ results) path r are at = go (bytes_eq m.0 path) refl (stands program results path r are.1) at
    where
      go : (b : Bool) → bytes_eq m.0 path ≡ b → (row_at (beside program results) path ≡ Some r → (text : Bytes) × AreResultsOf paths view sigs path text r) → cond b (Some x) (row_at (beside program results) path) ≡ Some r →
          (text : Bytes) × AreResultsOf paths view sigs path text r
      go true e rest h = (m.1, subst (AreResultsOf paths view sigs path m.1) (some_same x r h) (subst (λ (p : Bytes). AreResultsOf paths view sigs p m.1 x) ((bytes_decides m.0 path).0 e) are.0))
      go false e rest h = rest h

made_beside : {X Y : Type 0} (f : X → Y) (program : Program) (xs : List X) (path : Bytes) → row_at (beside program (map f xs)) path ≡ option_map f (row_at (beside program xs) path)
made_beside f [] xs path = refl
made_beside f (m ∷ program) [] path = refl
made_beside f (m ∷ program) (x ∷ xs) path = go (bytes_eq m.0 path) (made_beside f program xs path)
  where
    go : (b : Bool) → row_at (beside program (map f xs)) path ≡ option_map f (row_at (beside program xs) path) →
        cond b (Some (f x)) (row_at (beside program (map f xs)) path) ≡ option_map f (cond b (Some x) (row_at (beside program xs) path))
    go true rest = refl
    go false rest = rest

-- the local signature of a source with a tree
signature_by_tree : (m : Module) (text : Bytes) (tree : ParseTree) (sig : LocalSig) (faults : List Fault) → Says text tree sig faults → module_in tree ≡ Some m → sig ≡ local_signature m
signature_by_tree m text (Tree n spans) sig faults says is = says.1 ∙ ap local_signature (some_same (module_view n) m is)
signature_by_tree m text (Broken f) sig faults says is = absurd (let z : None ≡ Some m = is in cc)

module _ (program : Program) (results : List Results) (full : IsFull program results) where
  abbrev view : View
  view = view_in program results

  abbrev sigs : Sigs
  sigs = sigs_in program results

  of_path : (path : Bytes) (r : Results) → row_at (beside program results) path ≡ Some r → (text : Bytes) × AreResultsOf (paths_of program) view sigs path text r
  of_path path r at = stands (paths_of program) view sigs program results path r full at

  sig_of : (path : Bytes) (o : Option Results) → row_at (beside program results) path ≡ o → sigs path ≡ option_map (λ r. r.sig) o
  sig_of path o at = made_beside (λ (r : Results). r.sig) program results path ∙ ap (option_map (λ (r : Results). r.sig)) at

  known_at : (path : Bytes) (o : Option Results) → row_at (beside program results) path ≡ o → view path ≡ option_map known_of o
  known_at path o at = made_beside known_of program results path ∙ ap (option_map known_of) at

  are_merged : (path : Bytes) → sigs path ≡ merged view path
  are_merged path = go (row_at (beside program results) path) refl
    where
      go : (o : Option Results) → row_at (beside program results) path ≡ o → sigs path ≡ merged view path
      go None at = sig_of path None at ∙ sym (ap (option_map (merged_known view path)) (known_at path None at))
      go (Some r) at = sig_of path (Some r) at ∙ sym (of_path path r at).1.sig

module _ (program : Program) (results : List Results) (path : Bytes) (r : Results) (m : Module) (is : IsTreeAt program results path r m) where
  -- the merged signature of the module is made of its tree's local one
  is_signed : r.sig ≡ merged_known (view_in program results) path (known_by r.deps m)
  is_signed =
      let v = view_in program results in
      let own = of_path program results is.full path r is.has_results in
      let local : r.parse.sig ≡ local_signature m = signature_by_tree m own.0 r.parse.tree r.parse.sig r.parse.faults own.1.parse is.has_tree in
      let both : Some r.sig ≡ Some (merged_known v path (known_of r)) = sym own.1.sig ∙ ap (option_map (merged_known v path)) (known_at program results is.full path (Some r) is.has_results) in
      some_same r.sig (merged_known v path (known_of r)) both ∙ (λ j. merged_known v path (record { sig = local j; deps = r.deps }))

  in_tree : (name : Bytes) (t : FlowType) → row_at r.sig.aliases name ≡ Some t → InTree (view_in program results) (sigs_in program results) (are_merged program results is.full) path r.deps m name t
  in_tree name t told = signed (view_in program results) (sigs_in program results) (are_merged program results is.full) path r.deps m name t (sym (ap (λ (s : Sig). row_at s.aliases name) is_signed) ∙ told)

  says_same : (name : Bytes) (t : FlowType) → row_at r.sig.aliases name ≡ Some t → own_type path r.deps m (sigs_in program results) (path, name) ≡ Some t
  says_same name t told =
      let meaning = meaning_in path r.deps (sigs_in program results) m in
      let found = in_tree name t told in
      ap (λ (b : Bool). cond b (own_alias meaning (row_at (scope_of m) name)) None) ((bytes_decides path path).1 refl) ∙ ap (own_alias meaning) found.1 ∙ ap Some found.2

  module _ (table : Sigs) (at_path : (s : Sig) → table path ≡ Some s → s ≡ r.sig) where
    abbrev own_of : Bytes → Option FlowType
    own_of name = own_alias (meaning_in path r.deps table m) (row_at (scope_of m) name)

    -- no other name is an alias by the signature
    no_other : (name : Bytes) → own_of name ≡ None → (o : Option Sig) → table path ≡ o → alias_told name o ≡ None
    no_other name none None at = refl
    no_other name none (Some s) at = go (row_at s.aliases name) refl
      where
        go : (o : Option FlowType) → row_at s.aliases name ≡ o → o ≡ None
        go None told = refl
        go (Some t) told =
            let found = in_tree name t (sym (ap (λ (s : Sig). row_at s.aliases name) (at_path s at)) ∙ told) in
            let some = ap (own_alias (meaning_in path r.deps table m)) found.1 in
            absurd (cc (some, none))

    own_or : (name : Bytes) (o : Option FlowType) → own_of name ≡ o → option_or o (alias_told name (table path)) ≡ o
    own_or name None none = no_other name none (table path) refl
    own_or name (Some t) some = refl

    pub plain_at : (key : Key) → alias_type path r.deps m table key ≡ plain_type path r.deps m table key
    plain_at key = go (bytes_eq key.0 path) refl
      where
        go : (b : Bool) → bytes_eq key.0 path ≡ b → option_or (cond b (own_of key.1) None) (alias_told key.1 (table key.0)) ≡ cond b (own_of key.1) (alias_told key.1 (table key.0))
        go true e = ap (λ (p : Bytes). option_or (own_of key.1) (alias_told key.1 (table p))) ((bytes_decides key.0 path).0 e) ∙ own_or key.1 (own_of key.1) refl
        go false e = refl

pub signature_says_the_same : SignatureSaysTheSame
signature_says_the_same program results path r m is = says_same program results path r m is

sig_here : (program : Program) (results : List Results) (path : Bytes) (r : Results) (m : Module) → IsTreeAt program results path r m → sigs_in program results path ≡ Some r.sig
sig_here program results path r m is = sig_of program results is.full path (Some r) is.has_results

pub own_aliases_are_the_trees : OwnAliasesAreTheTrees
own_aliases_are_the_trees program results path r m is =
    let at = sig_here program results path r m is in
    λ j key. plain_at program results path r m is (sigs_in program results) (λ s here. some_same s r.sig (sym here ∙ at)) key j

pub so_by_reach : SoByReach
so_by_reach program results path r m is table cut =
    let at = sig_here program results path r m is in
    λ j key. plain_at program results path r m is table (λ s here. some_same s r.sig (sym here ∙ cut.has path (cut.only path s here) ∙ at)) key j
