-- One stage leads to the next, by how much the edit affects.
use Rattle.std.proofs.Common.{◌≡◌, ℕ, ◌+◌, ◌-◌, ◌*◌, ◌<◌, ◌≤◌, min, List, [], All, Option, length, sum_by, get_or, count_by, Result, Ok, Err, refl, sym, ap, ◌∙◌, subst, arith}
use Rattle.std.specs.Global.{Vec}
use Rattle.std.proofs.lemmas.List.{length-map}
use Rattle.std.proofs.lemmas.List.Sums.{sum_by_more, sum_by-take-le}
use Rattle.committed_results.specs.source_front.specs.declared.parse.Parse.{Parse}
use Rattle.graph_search.proofs.Lists.{take_whole}
use Rattle.merged_signatures.specs.Chains.{View}
use Rattle.committed_results.specs.program_check.specs.Full as full
use Rattle.committed_results.specs.program_check.specs.Law.{OneFull}
use Rattle.recheck_checking.specs.affected_law.specs.Affected.{Differs}
use Rattle.recheck_reach.specs.analyst.specs.Work.{Work, work_of, fronts_of, merging, checks_of, done, IsWithin}
use Rattle.recheck_checking.specs.payloads.specs.State.{program_of}
use Rattle.recheck_reach.specs.path_numbers.specs.Sets.{paths_at, ArePlaces}
use Rattle.check_values.specs.Rows.{Rows}
use Rattle.check_values.specs.declared.faults.Errs.{Errs}
use Rattle.check_values.specs.declared.signatures.Sig.{Sig}
use Rattle.check_values.specs.declared.root.Root.{Root}
use Rattle.recheck_reach.specs.check_phases.specs.Sourced.{program_in, paths_in, view_in, AreSources}
use Rattle.recheck_reach.specs.check_phases.specs.Checking.{batch_after}
use Rattle.recheck_reach.specs.check_phases.specs.declared.merging.Sources.{Sources}
use Rattle.recheck_reach.specs.recheck_merging.specs.Affected.{PlansAreOfMerged}
use Rattle.recheck_reach.specs.recheck_merging.specs.Plans.{members_of, members_in, MembersAddUp, IsPlanOf}
use Rattle.recheck_reach.specs.recheck_merging.specs.declared.planning.MergePlan.{MergePlan}
use Rattle.recheck_reach.specs.Law.{ParsedAreFresh, SeenAsChecked}
use Rattle.recheck_checking.specs.Checking.{TellsAll, AreCheckedTo}
use Rattle.recheck_run.specs.Extent.{Extent, Affects}
use Rattle.recheck_run.specs.Recheck.{HasWorked, whole_work}
use Rattle.recheck_run.specs.Stages.{old_of, IsBase, IsMerging, AreAffected}
use Rattle.recheck_run.specs.Steps.{AffectsIn, merged_to, Stands, OfEach, LeadsOn, IsAlso}
use Rattle.recheck_run.specs.declared.stages.Base.{Base}
use Rattle.recheck_run.specs.declared.stages.Merging.{Merging}
use Rattle.recheck_run.specs.declared.stages.Checking.{Checking}
use Rattle.recheck_run.specs.declared.stages.Stage.{Stage}
use Rattle.recheck_run.specs.declared.stages.Stage.TheVariants as stage
use Rattle.recheck_run.specs.declared.stages.Staged.{Staged}
use Rattle.recheck_run.specs.declared.stages.Next.{Next}
use Rattle.recheck_run.specs.declared.stages.Next.TheVariants as next
use Rattle.recheck_run.proofs.Extents.{parsed_is, merged_is, checked_is, waves_are}
use Rattle.recheck_run.proofs.Works.{more_work, more_merges, part_work, idle}

-- ---- the sources are read

fresh_is : ParsedAreFresh → (b : Base) (n : Extent) → IsBase b → AffectsIn b n → n.parsed ≡ count_by (λ on. on) b.fresh.items
fresh_is law b n base a =
    let fresh = law (old_of b) b.root base.new_rising in
    parsed_is (program_of (old_of b)) (program_of b.root) n a fresh.0 fresh.1 ∙ (fresh.2 ∙ ap (count_by (λ on. on)) (sym base.fresh))

pub parsed_count : ParsedAreFresh → (b : Base) (n : Extent) → IsBase b → AffectsIn b n → count_by (λ on. on) b.fresh.items ≡ n.parsed
parsed_count law b n base a = sym (fresh_is law b n base a)

pub fronts_read : ParsedAreFresh → (b : Base) (parses : Vec Parse) (now mid : Work) → IsBase b → now ≡ done mid (fronts_of (count_by (λ on. on) b.fresh.items))
    → OfEach b stage.Fronts mid (λ n poll before. Stands n (next.GoesTo (stage.Lists parses)) (poll + 1) before now)
fronts_read law b parses now mid base did n poll before a low reached =
    let c = fresh_is law b n base a in
    let first = reached.1 in
    let place = reached.0 in
    (((let e : poll + 1 ≡ 2 = omega (arith, place) in e), more_work before mid now 0 0 0 first (count_by (λ on. on) b.fresh.items) 0 0 n.parsed 0 0 did (omega (arith, c)) refl refl), tt)

pub fronts_failed : ParsedAreFresh → (b : Base) (now mid : Work) → IsBase b → IsWithin mid now (fronts_of (count_by (λ on. on) b.fresh.items)) → OfEach b stage.Fronts mid (λ n poll before. IsWithin before now (whole_work n))
fronts_failed law b now mid base did n poll before a low reached =
    let c = fresh_is law b n base a in
    part_work before mid now 0 0 0 reached.1 (count_by (λ on. on) b.fresh.items) 0 0 n low did (omega (arith, c)) (omega arith) (omega arith)

-- ---- nothing is done

pub lists_failed : (b : Base) (parses : Vec Parse) (mid : Work) → OfEach b (stage.Lists parses) mid (λ n poll before. IsWithin before mid (whole_work n))
lists_failed b parses mid n poll before a low reached = idle n before mid n.parsed 0 0 low reached.1 (omega arith) (omega arith) (omega arith)

-- ---- the plan

module _ (one : OneFull) (sees : SeenAsChecked) (of_merged : PlansAreOfMerged) (b : Base) (s : Sources) (p : MergePlan) (touched : List ℕ) (base : IsBase b) (root : s.root ≡ b.root) (sources : AreSources s)
    (differs : ArePlaces (Differs (view_in b.was.sources) (view_in s)) (paths_in s) touched) (plan : IsPlanOf s touched p) (n : Extent) (a : AffectsIn b n) where
  -- the edit of the sources' own root
  own : Affects (program_of (old_of b)) (program_in s) n
  own = subst (λ (r : Root). Affects (program_of (old_of b)) (program_of r) n) (sym root) a

  seen : full.view_in (program_in s) own.after ≡ view_in s
  seen = sees s own.after sources own.full_after

  was_seen : full.view_in (program_in b.was.sources) own.before ≡ view_in b.was.sources
  was_seen = sees b.was.sources own.before base.made.sources own.full_before

  touches : ArePlaces (Differs (full.view_in (program_in b.was.sources) own.before) (full.view_in (program_in s) own.after)) (paths_in s) touched
  touches =
      subst (λ (v : View). ArePlaces (Differs v (full.view_in (program_in s) own.after)) (paths_in s) touched) (sym was_seen)
      (subst (λ (v : View). ArePlaces (Differs (view_in b.was.sources) v) (paths_in s) touched) (sym seen) differs)

  pub planned_merged : n.merged ≡ length p.merged
  planned_merged =
      let of = of_merged s touched p (program_in b.was.sources) own.before own.after sources seen touches plan in
      merged_is (program_of (old_of b)) (program_in s) n own (paths_at (paths_in s) p.merged) of.merged ∙ length-map p.merged (λ x. get_or (paths_in s) x [])

  pub planned_waves : n.waves ≡ length p.waves
  planned_waves =
      let of = of_merged s touched p (program_in b.was.sources) own.before own.after sources seen touches plan in
      waves_are (program_of (old_of b)) (program_in s) n own one (paths_at (paths_in s) p.merged) p.waves of.merged of.waves

-- ---- the dependency lists are made

pub lists_made : OneFull → SeenAsChecked → PlansAreOfMerged → (b : Base) (m : Merging) (parses : Vec Parse) (mid : Work) → IsBase b → IsMerging b m → m.wave ≡ 0
    → OfEach b (stage.Lists parses) mid (λ n poll before. Stands n (next.GoesTo (stage.Merges m)) (poll + 1) before mid)
lists_made one sees of_merged b m parses mid base is none n poll before a low reached =
    let s = m.listed.sources in
    let merged = planned_merged one sees of_merged b s m.plan m.listed.touched base is.listed.root is.listed.sources is.touched is.plan n a in
    let waves = planned_waves one sees of_merged b s m.plan m.listed.touched base is.listed.root is.listed.sources is.touched is.plan n a in
    let two = reached.0 in
    let nothing : merged_to m.plan m.wave ≡ 0 = ap (merged_to m.plan) none in
    (((merged, waves, (let e : poll + 1 ≡ 3 + m.wave = omega (arith, two, none) in e)), subst (λ (k : ℕ). HasWorked before mid (work_of n.parsed k 0)) (sym nothing) reached.1), tt)

-- ---- a wave is merged

module _ (adds : MembersAddUp) (b : Base) (m : Merging) (is : IsMerging b m) where
  next_members : m.wave < length m.plan.waves → merged_to m.plan (m.wave + 1) ≡ merged_to m.plan m.wave + members_in m.plan m.wave
  next_members low = sum_by_more (members_of m.plan) m.plan.waves m.wave [] low

  pub most_members : (wave : ℕ) → merged_to m.plan wave ≤ length m.plan.merged
  most_members wave = (let all = adds m.listed.sources m.plan is.plan.plan in let most = sum_by-take-le (members_of m.plan) m.plan.waves wave in omega (arith, all, most))

  pub wave_goes : (new : Merging) (mid now : Work) → m.wave < length m.plan.waves → new.plan ≡ m.plan → new.wave ≡ m.wave + 1 → IsWithin mid now (merging (members_in m.plan m.wave))
      → OfEach b (stage.Merges m) mid (λ n poll before. Stands n (next.GoesTo (stage.Merges new)) (poll + 1) before now)
  wave_goes new mid now low same following did n poll before a counted reached =
      let at = reached.0 in
      let at_merged = at.0 in let at_waves = at.1 in let at_poll = at.2 in
      let waves = ap (λ (p : MergePlan). length p.waves) same in
      let merged = ap (λ (p : MergePlan). length p.merged) same in
      let mine : merged_to new.plan new.wave ≡ merged_to m.plan (m.wave + 1) = (λ j. merged_to (same j) (following j)) in
      let step = next_members low in (
        (
          ((let e : n.merged ≡ length new.plan.merged = omega (arith, at_merged, merged) in e), (let e : n.waves ≡ length new.plan.waves = omega (arith, at_waves, waves) in e), (let e : poll + 1 ≡ 3 + new.wave = omega (arith, at_poll, following) in e)),
          more_merges before mid now n.parsed (merged_to m.plan m.wave) 0 reached.1 (members_in m.plan m.wave) (merged_to new.plan new.wave) did (omega (arith, mine, step)),
        ),
        tt,
      )

  pub wave_failed : (mid now : Work) → m.wave < length m.plan.waves → IsWithin mid now (merging (members_in m.plan m.wave)) → OfEach b (stage.Merges m) mid (λ n poll before. IsWithin before now (whole_work n))
  wave_failed mid now low did n poll before a counted reached =
      let step = next_members low in
      let most = most_members (m.wave + 1) in
      let merged = reached.0.0 in
      part_work before mid now n.parsed (merged_to m.plan m.wave) 0 reached.1 0 (members_in m.plan m.wave) 0 n counted did (omega arith) (omega (arith, step, most, merged)) (omega arith)

  pub merges_idle : (mid : Work) → OfEach b (stage.Merges m) mid (λ n poll before. IsWithin before mid (whole_work n))
  merges_idle mid n poll before a counted reached =
      let most = most_members m.wave in
      let merged = reached.0.0 in
      idle n before mid n.parsed (merged_to m.plan m.wave) 0 counted reached.1 (omega arith) (omega (arith, most, merged)) (omega arith)

  -- ---- the checks begin

  pub checks_begin : (c : Checking) → length m.plan.waves ≤ m.wave → c.sources.root ≡ b.root → AreAffected b c.sources c.checked → c.done ≡ 0 → IsAlso b (stage.Merges m) (stage.Checks c)
  checks_begin c past root are none mid n poll before a counted reached =
      let at = reached.0 in
      let at_merged = at.0 in let at_waves = at.1 in let at_poll = at.2 in
      let mine : Affects (program_of (old_of b)) (program_in c.sources) n = subst (λ (r : Root). Affects (program_of (old_of b)) (program_of r) n) (sym root) a in
      let checked : n.checked ≡ length c.checked =
      checked_is (program_of (old_of b)) (program_in c.sources) n mine (paths_at (paths_in c.sources) c.checked) (are.paths mine.before mine.after mine.full_before mine.full_after) ∙ length-map c.checked (λ x. get_or (paths_in c.sources) x []) in
      let low = is.low in
      let whole : merged_to m.plan m.wave ≡ n.merged =
      ap (λ (l : List (List ℕ)). sum_by (members_of m.plan) l) (take_whole m.plan.waves m.wave past) ∙ (adds m.listed.sources m.plan is.plan.plan ∙ sym at_merged) in (
        (checked, 0, (let e : 0 ≤ n.batches = omega arith in e), (let e : poll ≡ 3 + n.waves + 0 = omega (arith, at_poll, at_waves, past, low) in e), (let e : c.done ≡ min n.checked (64 * 0) = omega (arith, none) in e)),
        subst (λ (w : Work). HasWorked before mid w) (λ j. work_of n.parsed (whole j) (sym none j)) reached.1,
      )

-- ---- a batch is checked

module _ (b : Base) (c : Checking) where
  pub batch_goes : (new : Checking) (mid now : Work) → c.done < length c.checked → new.checked ≡ c.checked → new.done ≡ batch_after c.done (length c.checked) → now ≡ done mid (checks_of (batch_after c.done (length c.checked) - c.done))
      → OfEach b (stage.Checks c) mid (λ n poll before. Stands n (next.GoesTo (stage.Checks new)) (poll + 1) before now)
  batch_goes new mid now low numbers is did n poll before a counted reached =
      let at = reached.0 in
      let size = at.0 in let k = at.1 in let few = at.2 in let at_poll = at.3 in let so = at.4 in
      let enough = a.are_batches.enough in
      let fits = a.are_batches.few in
      let many = ap length numbers in (
        (
          (omega (arith, size, many), k + 1, omega (arith, size, so, low, enough, fits, few), omega (arith, at_poll), omega (arith, size, is, so, low)),
          more_work before mid now n.parsed n.merged c.done reached.1 0 0 (batch_after c.done (length c.checked) - c.done) n.parsed n.merged new.done did (omega arith) (omega arith) (omega (arith, is, low)),
        ),
        omega (arith, at_poll),
      )

  pub batch_failed : (mid now : Work) → c.done < length c.checked → IsWithin mid now (checks_of (batch_after c.done (length c.checked) - c.done)) → OfEach b (stage.Checks c) mid (λ n poll before. IsWithin before now (whole_work n))
  batch_failed mid now low did n poll before a counted reached =
      let size = reached.0.0 in
      part_work before mid now n.parsed n.merged c.done reached.1 0 0 (batch_after c.done (length c.checked) - c.done) n counted did (omega arith) (omega arith) (omega (arith, size, low))

  -- as the code has them
  pub batch_goes_on : (numbers : List ℕ) (new : Checking) (mid now : Work) → numbers ≡ c.checked → c.done < length c.checked → new.checked ≡ c.checked → new.done ≡ batch_after c.done (length numbers)
      → now ≡ done mid (checks_of (batch_after c.done (length numbers) - c.done)) → OfEach b (stage.Checks c) mid (λ n poll before. Stands n (next.GoesTo (stage.Checks new)) (poll + 1) before now)
  batch_goes_on numbers new mid now same low checked is did =
      batch_goes new mid now low checked (is ∙ ap (λ (l : List ℕ). batch_after c.done (length l)) same) (did ∙ ap (λ (l : List ℕ). done mid (checks_of (batch_after c.done (length l) - c.done))) same)

  pub batch_failed_on : (numbers : List ℕ) (mid now : Work) → numbers ≡ c.checked → c.done < length c.checked → IsWithin mid now (checks_of (batch_after c.done (length numbers) - c.done)) → OfEach b (stage.Checks c) mid (λ n poll before. IsWithin before now (whole_work n))
  batch_failed_on numbers mid now same low did = batch_failed mid now low (subst (λ (l : List ℕ). IsWithin mid now (checks_of (batch_after c.done (length l) - c.done))) same did)

  pub checks_idle : (mid : Work) → c.done ≤ length c.checked → OfEach b (stage.Checks c) mid (λ n poll before. IsWithin before mid (whole_work n))
  checks_idle mid low n poll before a counted reached =
      let size = reached.0.0 in
      idle n before mid n.parsed n.merged c.done counted reached.1 (omega arith) (omega arith) (omega (arith, size, low))

  -- all are checked
  pub checks_end : ParsedAreFresh → (staged : Staged) (mid : Work) → IsBase b → length c.checked ≤ c.done → staged.parsed ≡ count_by (λ on. on) b.fresh.items → staged.checked ≡ length c.checked
      → OfEach b (stage.Checks c) mid (λ n poll before. Stands n (next.Ready staged) (poll + 1) before mid)
  checks_end law staged mid base past parsed checked n poll before a counted reached =
      let at = reached.0 in
      let size = at.0 in let k = at.1 in let few = at.2 in let at_poll = at.3 in let so = at.4 in
      let enough = a.are_batches.enough in
      let fits = a.are_batches.few in
      let all : c.done ≡ n.checked = omega (arith, size, past, so) in
      let every : k ≡ n.batches = omega (arith, size, past, so, few, enough, fits) in
      ((omega (arith, at_poll, every)), subst (λ (d : ℕ). HasWorked before mid (work_of n.parsed n.merged d)) all reached.1, parsed ∙ parsed_count law b n base a, checked ∙ sym size)

-- the numbers as the code has them
pub numbers_low : (s : Sources) (numbers checked : List ℕ) → numbers ≡ checked → All (λ x. x < length s.root.modules) checked → All (λ x. x < length s.root.modules) numbers
numbers_low s numbers checked same low = subst (All (λ (x : ℕ). x < length s.root.modules)) (sym same) low

pub table_tells : (s : Sources) (sigs view : List Sig) (numbers checked : List ℕ) (rows : Rows Sig) → view ≡ sigs → numbers ≡ checked → TellsAll s sigs checked rows → TellsAll s view numbers rows
table_tells s sigs view numbers checked rows seen same told = subst (λ (l : List Sig). TellsAll s l numbers rows) (sym seen) (subst (λ (l : List ℕ). TellsAll s sigs l rows) (sym same) told)

pub checked_begun : (s : Sources) (sigs view : List Sig) (numbers checked : List ℕ) (begun : ℕ) (slots : List (Option Errs)) → view ≡ sigs → numbers ≡ checked → AreCheckedTo s sigs checked begun slots → AreCheckedTo s view numbers begun slots
checked_begun s sigs view numbers checked begun slots seen same are = subst (λ (l : List Sig). AreCheckedTo s l numbers begun slots) (sym seen) (subst (λ (l : List ℕ). AreCheckedTo s sigs l begun slots) (sym same) are)

pub checked_more : (s : Sources) (sigs view : List Sig) (numbers checked : List ℕ) (begun end : ℕ) (slots : List (Option Errs)) → view ≡ sigs → numbers ≡ checked → end ≡ batch_after begun (length numbers)
    → AreCheckedTo s view numbers (batch_after begun (length numbers)) slots → AreCheckedTo s sigs checked end slots
checked_more s sigs view numbers checked begun end slots seen same is are =
    subst (λ (l : List ℕ). AreCheckedTo s sigs l end slots) same (subst (λ (k : ℕ). AreCheckedTo s sigs numbers k slots) (sym is) (subst (λ (l : List Sig). AreCheckedTo s l numbers (batch_after begun (length numbers)) slots) seen are))

-- ---- of whatever stage it is

pub of_each_same : (b : Base) (s t : Stage) (mid : Work) (Holds : Extent → ℕ → Work → Type 0) → s ≡ t → OfEach b t mid Holds → OfEach b s mid Holds
of_each_same b s t mid Holds is each = subst (λ (k : Stage). OfEach b k mid Holds) (sym is) each

pub leads_same : {E : Type 0} (b : Base) (s t : Stage) (r : Result Next E) (mid now : Work) → s ≡ t → LeadsOn b t r mid now → LeadsOn b s r mid now
leads_same b s t r mid now is leads = subst (λ (k : Stage). LeadsOn b k r mid now) (sym is) leads

pub leads_also : {E : Type 0} (b : Base) (t u : Stage) (r : Result Next E) (mid now : Work) → IsAlso b t u → LeadsOn b u r mid now → LeadsOn b t r mid now
leads_also b t u (Ok new) mid now also leads = λ n poll before a low reached. leads n poll before a low (also mid n poll before a low reached)
leads_also b t u (Err e) mid now also leads = λ n poll before a low reached. leads n poll before a low (also mid n poll before a low reached)
