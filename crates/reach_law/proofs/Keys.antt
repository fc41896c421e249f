-- The key law, and that the cut is right.
use Rattle.std.proofs.Common.{List, sym, ◌∙◌}
use Rattle.check_values.specs.Rows.{Bytes, Rows, row_at}
use Rattle.check_values.specs.declared.faults.Fault.{Fault}
use Rattle.check_values.specs.declared.signatures.Deps.{Deps}
use Rattle.check_values.specs.declared.signatures.Sig.{Sig}
use Rattle.errors_law.specs.errors_by_reach.specs.Law.{Source, whole, broken, HasErrors, Agree}
use Rattle.errors_law.specs.errors_by_reach.proofs.Tables.{agree_back}
use Rattle.errors_law.specs.errors_by_reach.proofs.Laws.{cut_agrees}
use Rattle.errors_law.proofs.Reached.{table_of, is_table}
use Rattle.errors_law.proofs.Views.{each_sees, each_sees_reached}
use Rattle.reach_law.specs.Law.{KeyLaw, TypeKeyLaw, CutIsRight, TypeCutIsRight, JobsAreRight}
use Rattle.reach_law.proofs.Reaching.{errors_by_reach, types_by_reach}

-- what is said by the ones is said by the others
serves : (path : Bytes) (deps : Deps) (source : Source) (sigs others : Rows Sig) (errors : List Fault) → Agree (row_at sigs) deps (row_at others)
    → HasErrors path deps source (row_at sigs) errors → HasErrors path deps source (row_at others) errors
serves path deps (whole m spans) sigs others errors agree (p, sees, is) =
    let all = each_sees path deps m others in
    (all.0, all.1, is ∙ errors_by_reach path deps m (row_at sigs) (row_at others) (table_of deps sigs) p all.0 (is_table deps sigs) agree sees all.1 spans)
serves path deps (broken code place) sigs others errors agree is = is

pub key_law : KeyLaw
key_law path deps source sigs others errors agree =
    (serves path deps source sigs others errors agree, serves path deps source others sigs errors (agree_back (row_at sigs) (row_at others) deps agree))

pub type_key_law : TypeKeyLaw
type_key_law path deps m spans sigs others place answer agree = (
  (λ has.
      let all = each_sees path deps m others in
      (all.0, all.1, has.2 ∙ types_by_reach path deps m (row_at sigs) (row_at others) (table_of deps sigs) has.0 all.0 (is_table deps sigs) agree has.1 all.1 spans place)),
  (λ has.
      let all = each_sees path deps m sigs in
      (all.0, all.1, has.2 ∙ sym (types_by_reach path deps m (row_at sigs) (row_at others) (table_of deps sigs) all.0 has.0 (is_table deps sigs) agree all.1 has.1 spans place))),
)

pub cut_is_right : CutIsRight
cut_is_right path deps (whole m spans) sigs errors = (
  (λ are.
      let all = each_sees path deps m sigs in
      (all.0, all.1, are.2.2 ∙ sym (errors_by_reach path deps m (row_at sigs) are.0 are.0 all.0 are.2.0 are.1 are.1.has all.1 are.2.1 spans))),
  (λ has.
      let few = each_sees_reached path deps m sigs in
      (few.0, few.1, (few.2, few.3, has.2 ∙ errors_by_reach path deps m (row_at sigs) few.0 few.0 has.0 few.2 few.1 few.1.has has.1 few.3 spans))),
)
cut_is_right path deps (broken code place) sigs errors = ((λ are. are.2), (λ has. (table_of deps sigs, is_table deps sigs, has)))

pub type_cut_is_right : TypeCutIsRight
type_cut_is_right path deps m spans sigs place answer = (
  (λ are.
      let all = each_sees path deps m sigs in
      (all.0, all.1, are.2.2 ∙ sym (types_by_reach path deps m (row_at sigs) are.0 are.0 all.0 are.2.0 are.1 are.1.has all.1 are.2.1 spans place))),
  (λ has.
      let few = each_sees_reached path deps m sigs in
      (few.0, few.1, (few.2, few.3, has.2 ∙ types_by_reach path deps m (row_at sigs) few.0 few.0 has.0 few.2 few.1 few.1.has has.1 few.3 spans place))),
)

pub jobs_are_right : JobsAreRight
jobs_are_right path deps source sigs told errors agree are =
    (cut_is_right path deps source sigs errors).0 (cut_agrees path deps source (row_at told) (row_at sigs) errors (agree_back (row_at sigs) (row_at told) deps agree) are)
