-- Behind the last batch the errors of all modules are known.
use Rattle.std.proofs.Common.{◌≡◌, ℕ, suc, Bool, true, false, List, [], ◌∷◌, length, slice_get, Option, Some, None, refl, sym, ap, ◌∙◌, subst, arith}
use Rattle.std.proofs.lemmas.List.{length-map}
use Rattle.flow_base.specs.Program.{Bytes, Program}
use Rattle.heap_core.specs.Meaning.{names}
use Rattle.check_values.specs.declared.faults.Errs.{Errs}
use Rattle.check_values.specs.declared.signatures.Deps.{Deps}
use Rattle.check_values.specs.declared.signatures.Sig.{Sig}
use Rattle.recheck_merging.specs.source_front.specs.declared.parse.Parse.{Parse}
use Rattle.errors_by_reach.specs.Seen.{Sigs}
use Rattle.errors_by_reach.specs.Law.{HasErrors}
use Rattle.recheck_merging.specs.check_job.specs.Jobs.{source_in}
use Rattle.recheck_merging.specs.check_phases.specs.Phases.{AreChecked, IsCheckedAt}
use Rattle.recheck_merging.specs.check_phases.specs.Sourced.{program_in}
use Rattle.recheck_merging.specs.check_phases.specs.Whole.{sigs_by}
use Rattle.recheck_merging.specs.check_phases.specs.declared.merging.Sources.{Sources}
use Rattle.recheck_merging.specs.check_phases.proofs.Lists.{one_value, within_there}
use Rattle.recheck_merging.specs.check_phases.proofs.Waves.{named_has, has_named}
use Rattle.recheck_merging.proofs.Mapped.{get_mapped}
use Rattle.recheck_checking.specs.Keeping.{IsFilled, AreFilled}
use Rattle.recheck_checking.specs.Checking.{AreCheckedTo, AllAreChecked}

all_filled : (s : Sources) (sigs : List Sig) (checked : List ℕ) (slots : List (Option Errs)) → AreCheckedTo s sigs checked (length checked) slots → AreFilled slots
all_filled s sigs checked slots to x low = go (names checked x) refl
  where
    go : (b : Bool) → names checked x ≡ b → IsFilled slots x
    go false outside = to.kept x (let many = to.many in omega arith) (λ has. let z : false ≡ true = sym outside ∙ has_named checked x has in cc)
    go true among = let i = named_has checked x among in to.so_far i.0 x (within_there checked i.0 x i.1) i.1

-- errors that are right one by one are right in order
each_checked : (sigs : Sigs) (program : Program) (parses : List Parse) (lists : List Deps) (errors : List Errs) → ((x : ℕ) (e : Errs) → slice_get errors x ≡ Some e → IsCheckedAt sigs program parses lists x e) → AreChecked sigs program parses lists errors
each_checked sigs program parses lists [] each = tt
each_checked sigs [] parses lists (e ∷ errors) each = absurd (let h = each 0 e refl in let z : None ≡ Some h.path = h.at_path in cc)
each_checked sigs (m ∷ program) [] lists (e ∷ errors) each = absurd (let h = each 0 e refl in let z : None ≡ Some h.parse = h.at_parse in cc)
each_checked sigs (m ∷ program) (p ∷ parses) [] (e ∷ errors) each = absurd (let h = each 0 e refl in let z : None ≡ Some h.deps = h.at_deps in cc)
each_checked sigs (m ∷ program) (p ∷ parses) (d ∷ lists) (e ∷ errors) each =
    let h = each 0 e refl in
    let path : h.path ≡ m = sym (one_value m h.path h.at_path) in
    let parse : h.parse ≡ p = sym (one_value p h.parse h.at_parse) in
    let deps : h.deps ≡ d = sym (one_value d h.deps h.at_deps) in (
      subst (λ (r : Bytes × Bytes). HasErrors r.0 d (source_in p.tree) sigs e.faults) path
          (subst (λ (r : Parse). HasErrors h.path.0 d (source_in r.tree) sigs e.faults) parse
          (subst (λ (r : Deps). HasErrors h.path.0 r (source_in h.parse.tree) sigs e.faults) deps h.errors)),
      each_checked sigs program parses lists errors (λ x f at. let k = each (suc x) f at in record {
        path = k.path;
        parse = k.parse;
        deps = k.deps;
        at_path = k.at_path;
        at_parse = k.at_parse;
        at_deps = k.at_deps;
        errors = k.errors;
      }),
    )

pub all_are_checked : AllAreChecked
all_are_checked s sigs checked slots sources to = (
  all_filled s sigs checked slots to,
  λ errors is. record {
    checked = each_checked (sigs_by s sigs) (program_in s) s.parses.items s.lists.items errors (λ x e at. to.right x e (ap (λ (l : List (Option Errs)). slice_get l x) (sym is) ∙ get_mapped Some errors x e at));
    many = sym (length-map errors Some) ∙ (ap length is ∙ to.many);
  },
)
