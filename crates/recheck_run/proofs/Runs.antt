-- Where a recheck stands at a poll, and how it ends there.
use Rattle.std.proofs.Common.{◌≡◌, ℕ, zero, suc, ◌+◌, ◌-◌, ◌*◌, ◌^◌, ◌<◌, ◌≤◌, min, Bool, true, false, cond, refl, sym, ap, ◌∙◌, subst, arith}
use Rattle.std.specs.Prelude.{nat_le}
use Rattle.std.proofs.lemmas.Bool.Decides.{nat_tests}
use Rattle.std.proofs.lemmas.List.{length-map}
use Rattle.flow_base.specs.Outside.{WhereTold}
use Rattle.flow_base.specs.Program.{Bytes}
use Rattle.flow_base.specs.Causes.{raised, RoseBy}
use Rattle.committed_results.specs.full_law.specs.Law.{EachFull}
use Rattle.heap_core.specs.Meaning.{Meaning, none_of}
use Rattle.stops.specs.Asked.{StopSeen}
use Rattle.check_values.specs.declared.root.RootRow.{RootRow}
use Rattle.recheck_reach.specs.analyst.specs.Work.{Work, risen, RisesWithin, IsWithin}
use Rattle.recheck_checking.specs.payloads.specs.State.{program_of}
use Rattle.recheck_checking.specs.payloads.specs.declared.payload.Payload.{Payload}
use Rattle.recheck_reach.specs.recheck_merging.specs.Plans.{MembersAddUp}
use Rattle.recheck_run.specs.Extent.{Extent, polls}
use Rattle.recheck_run.specs.Recheck.{WorkedTo, whole_work}
use Rattle.recheck_run.specs.Stages.{old_of, IsBase, IsBaseIn, Holds}
use Rattle.recheck_run.specs.Steps.{AffectsIn, merged_to, Reaches, IsPast, Stands, IsReady, HoldsNext}
use Rattle.recheck_run.specs.Ends.{Counted, HasEnded, HasStopped, HasFailed}
use Rattle.recheck_run.specs.declared.stages.Base.{Base}
use Rattle.recheck_run.specs.declared.stages.Stage.{Stage}
use Rattle.recheck_run.specs.declared.stages.Stage.TheVariants as stage
use Rattle.recheck_run.specs.declared.stages.Staged.{Staged}
use Rattle.recheck_run.specs.declared.stages.Next.{Next}
use Rattle.recheck_run.specs.declared.stages.Next.TheVariants as next
use Rattle.recheck_run.proofs.Extents.{some_extent, polls_fit}
use Rattle.recheck_run.proofs.Goes.{most_members}
use Rattle.recheck_run.proofs.Dones.{worked_to_end}

-- ---- what is there at an arm

pub holds_stage : (b : Base) (m m' : Meaning Payload) (n : Next) (s : Stage) → n ≡ next.GoesTo s → HoldsNext b m m' n → Holds b s × (m' ≡ m)
holds_stage b m m' n s is holds = subst (HoldsNext b m m') is holds

pub holds_ready : (b : Base) (m m' : Meaning Payload) (n : Next) (s : Staged) → n ≡ next.Ready s → HoldsNext b m m' n → IsReady b m m' s.errors
holds_ready b m m' n s is holds = subst (HoldsNext b m m') is holds

pub still_bare : (m m' : Meaning Payload) → m' ≡ m → m.staged ≡ none_of m.staged → m'.staged ≡ none_of m'.staged
still_bare m m' is bare = subst (λ (k : Meaning Payload). k.staged ≡ none_of k.staged) (sym is) bare

pub still_based : (m m' : Meaning Payload) (b : Base) → m' ≡ m → IsBaseIn m.committed b → IsBaseIn m'.committed b
still_based m m' b is based = subst (λ (k : Meaning Payload). IsBaseIn k.committed b) (sym is) based

pub still_next : (b : Base) (m m' m'' : Meaning Payload) (n : Next) → m' ≡ m → HoldsNext b m' m'' n → HoldsNext b m m'' n
still_next b m m' m'' n is holds = subst (λ (k : Meaning Payload). HoldsNext b k m'' n) is holds

-- ---- the place of a stage

late : (p k : ℕ) → k < p → nat_le p k ≡ false
late p k low = grind (arith, nat_tests)

early : (p k : ℕ) → p ≤ k → nat_le p k ≡ true
early p k low = grind (arith, nat_tests)

module _ (adds : MembersAddUp) (b : Base) (n : Extent) where
  -- a stage is before the last poll
  pub before_last : (s : Stage) (poll : ℕ) (before now : Work) → Holds b s → Reaches n s poll before now → (1 ≤ poll) × (poll < polls n)
  before_last stage.Fronts poll before now holds reached = (let e = reached.0 in (omega (arith, e), omega (arith, e)))
  before_last (stage.Lists p) poll before now holds reached = (let e = reached.0 in (omega (arith, e), omega (arith, e)))
  before_last (stage.Merges m) poll before now holds reached = (let e = reached.0.2 in let w = reached.0.1 in let l = holds.low in (omega (arith, e), omega (arith, e, w, l)))
  before_last (stage.Checks c) poll before now holds reached = (let e = reached.0.3 in let k = reached.0.2 in (omega (arith, e), omega (arith, e, k)))

  -- so much work was done
  pub worked : (s : Stage) (poll : ℕ) (before now : Work) → Holds b s → Reaches n s poll before now → IsPast s poll → WorkedTo n poll before now
  worked stage.Fronts poll before now holds reached past =
      let is = reached.1 in
      let one : poll ≡ 1 = reached.0 in
      subst (λ (p : ℕ). WorkedTo n p before now) (sym one) (record { fronts = is.fronts; merges = is.merges; checks = is.checks ∙ ap (risen before.checks) (let e : 0 ≡ min n.checked (64 * (1 - (3 + n.waves))) = omega arith in e) })
  worked (stage.Lists p) poll before now holds reached past =
      let is = reached.1 in
      let two : poll ≡ 2 = reached.0 in
      subst (λ (p : ℕ). WorkedTo n p before now) (sym two) (record { fronts = is.fronts; merges = is.merges; checks = is.checks ∙ ap (risen before.checks) (let e : 0 ≡ min n.checked (64 * (2 - (3 + n.waves))) = omega arith in e) })
  worked (stage.Merges k) poll before now holds reached past =
      let is = reached.1 in
      let at = reached.0.2 in
      let l = holds.low in
      let w = reached.0.1 in
      record {
        fronts = is.fronts ∙ ap (risen before.fronts) (sym (ap (λ (t : Bool). cond t 0 n.parsed) (late poll 1 (omega (arith, at)))));
        merges = merged_so k.wave refl at is.merges;
        checks = is.checks ∙ ap (risen before.checks) (let e : 0 ≡ min n.checked (64 * (poll - (3 + n.waves))) = omega (arith, at, l, w) in e);
      }
    where
      most : merged_to k.plan k.wave ≤ n.merged
      most = (let a = most_members adds b k holds k.wave in let e = reached.0.0 in omega (arith, a, e))

      merged_so : (wave : ℕ) → k.wave ≡ wave → poll ≡ 3 + k.wave → RisesWithin before.merges now.merges (merged_to k.plan k.wave) → RisesWithin before.merges now.merges (cond (nat_le poll 3) 0 n.merged)
      merged_so zero none at m =
          let three = early poll 3 (omega (arith, at, none)) in
          let nothing : merged_to k.plan k.wave ≡ 0 = ap (merged_to k.plan) none in
          subst (λ (t : Bool). RisesWithin before.merges now.merges (cond t 0 n.merged)) (sym three) (subst (RisesWithin before.merges now.merges) nothing m)
      merged_so (suc wave) some at m =
          let past_three = late poll 3 (omega (arith, at, some)) in
          let mo = most in
          let u = m.1 in
          subst (λ (t : Bool). RisesWithin before.merges now.merges (cond t 0 n.merged)) (sym past_three) (m.0, omega (arith, u, mo))
  worked (stage.Checks k) poll before now holds reached past =
      let is = reached.1 in
      let at = reached.0.3 in
      let so = reached.0.4 in
      record {
        fronts = is.fronts ∙ ap (risen before.fronts) (sym (ap (λ (t : Bool). cond t 0 n.parsed) (late poll 1 (omega (arith, past)))));
        merges = subst (λ (t : Bool). RisesWithin before.merges now.merges (cond t 0 n.merged)) (sym (late poll 3 (omega (arith, past)))) is.merges;
        checks = is.checks ∙ ap (risen before.checks) (let e : k.done ≡ min n.checked (64 * (poll - (3 + n.waves))) = omega (arith, so, at) in e);
      }

  -- ---- the ends

  module _ (a : AffectsIn b n) (before mid : Counted) (stop : StopSeen) (poll : ℕ) (some : 1 ≤ poll) (asked : mid.stop.questions ≡ min (before.stop.questions + (poll - 1)) (2 ^ 64 - 1)) (quiet : mid.stop.yes_answers ≡ before.stop.yes_answers)
      (rises : stop.questions ≡ raised mid.stop.questions) where
    abbrev now : Counted
    now = record { stop = stop; work = mid.work }

    rose : RoseBy poll before.stop.questions stop.questions
    rose = omega (arith, asked, rises, some)

    pub stopped : (m m' : Meaning Payload) (x : Next) → HoldsNext b m m' x → Stands n x poll before.work mid.work → stop.yes_answers ≡ raised mid.stop.yes_answers
        → WhereTold before.stop.told (λ question. stop.questions ≡ question) → HasStopped n before now poll
    stopped m m' (next.GoesTo s) holds stands said told = record {
      some = some;
      few = (let l = (before_last s poll before.work mid.work holds.0 stands.0).1 in omega (arith, l));
      questions = rose;
      yes = said ∙ ap raised quiet;
      at = told;
      work = worked s poll before.work mid.work holds.0 stands.0 stands.1;
    }
    stopped m m' (next.Ready s) holds stands said told = record {
      some = some;
      few = (let e = stands.0 in omega (arith, e));
      questions = rose;
      yes = said ∙ ap raised quiet;
      at = told;
      work = subst (λ (p : ℕ). WorkedTo n p before.work mid.work) (sym stands.0) (worked_to_end n before.work mid.work a.are_batches.enough stands.1);
    }

    pub ended : (x : Next) (s : Staged) → x ≡ next.Ready s → Stands n x poll before.work mid.work → stop.yes_answers ≡ mid.stop.yes_answers → HasEnded n before now s
    ended x s is stands silent =
        let st : Stands n (next.Ready s) poll before.work mid.work = subst (λ (y : Next). Stands n y poll before.work mid.work) is stands in
        record {
          questions = (let e = st.0 in let r = rose in omega (arith, e, r));
          no_yes = silent ∙ quiet;
          work = st.1;
          counts = (st.2, st.3);
        }

    pub failed : (s : Stage) (work : Work) → Holds b s → Reaches n s poll before.work mid.work → stop.yes_answers ≡ mid.stop.yes_answers → IsWithin before.work work (whole_work n) → HasFailed n before (record { stop = stop; work = work })
    failed s work holds reached silent within = record {
      asked = poll;
      fewer = (before_last s poll before.work mid.work holds reached).1;
      questions = rose;
      no_yes = silent ∙ quiet;
      work = within;
    }

-- the number of the next poll fits
pub next_fits : EachFull → MembersAddUp → (b : Base) → IsBase b → (s : Stage) (poll : ℕ) (before now : Work) → Holds b s → ((n : Extent) → AffectsIn b n → Stands n (next.GoesTo s) poll before now) → poll + 1 < 2 ^ 32
next_fits each adds b base s poll before now holds stands =
    let n = some_extent each (program_of (old_of b)) (program_of b.root) in
    let few = base.new_few in
    let pair : RootRow → Bytes × Bytes = λ m. (m.path, m.text) in
    let many = length-map b.root.modules pair in
    let most = polls_fit (program_of (old_of b)) (program_of b.root) n.0 n.1 (omega (arith, few, many)) in
    let last = (before_last adds b n.0 s poll before now holds (stands n.0 n.1).0).1 in
    omega (arith, most, last)

-- the stage of an arm
pub stands_stage : (n : Extent) (x : Next) (s : Stage) (poll : ℕ) (before now : Work) → x ≡ next.GoesTo s → Stands n x poll before now → Stands n (next.GoesTo s) poll before now
stands_stage n x s poll before now is stands = subst (λ (y : Next). Stands n y poll before now) is stands
