use Rattle.std.proofs.Common.{List, length, sym, ap, ◌∙◌, subst, arith}
use Rattle.flow_values.specs.Path.{IsRising}
use Rattle.flow_base.specs.Program.{Program, paths_of as paths_in}
use Rattle.check_values.specs.Roots.{paths_of_rows}
use Rattle.check_values.specs.declared.root.RootRow.{RootRow}
use Rattle.payloads.specs.State.{program_of}
use Rattle.pending_edits.specs.Counting.{counted}
use Rattle.pending_edits.specs.Pending.{MayBecome}
use Rattle.edited_root.specs.From.{texts_in}
use Rattle.edited_root.specs.Walk.{drafted}
use Rattle.edited_root.specs.declared.walking.Draft.{Draft}
use Rattle.edited_root.proofs.Rooted.{root_rising, few_modules, follows_own, becomes_own}
use Rattle.edited_root.proofs.next.edited_root.Goals as goal

pub walk-requires-clause-rising : goal.walk-requires-clause-rising
walk-requires-clause-rising g c = subst (λ (ms : List RootRow). IsRising (paths_of_rows ms)) (sym c.as_slice.ensures) (root_rising _ c.args.old.now c.requires.root)

pub walk-requires-clause-few : goal.walk-requires-clause-few
walk-requires-clause-few g c =
    let many = ap length c.as_slice.ensures in
    let few = few_modules c.args.edits.now.capacity c.args.old.now c.requires.root in
    let most = c.capacity-capacity.ensures in
    omega (arith, many, few, most)

pub next_root-requires-clause-rising : goal.next_root-requires-clause-rising
next_root-requires-clause-rising g c = subst (λ (ds : List Draft). IsRising (paths_in (drafted ds))) (sym c.as_slice-2.ensures.value) c.in_ok-drafts.ensures.rising

pub next_root-requires-clause-few : goal.next_root-requires-clause-few
next_root-requires-clause-few g c =
    let many = ap length c.as_slice-2.ensures.value in
    let here = ap (λ (ms : List RootRow). counted (paths_of_rows ms) c.args.edits.now.edits) c.as_slice.ensures in
    let most = c.capacity-capacity.ensures in
    omega (arith, many, here, most, c.requires.counted, c.in_ok-drafts.ensures.few)

pub returns-clause-follows : goal.returns-clause-follows
returns-clause-follows g c = follows_own c.args.old.now c.in_ok-next_root.field-0.root _ c.in_ok-next_root.ensures.follows

pub returns-clause-edited : goal.returns-clause-edited
returns-clause-edited g c =
    becomes_own (g.F.Folder.seen c.args.folder.now).told (program_of c.args.old.now) c.args.edits.now.edits c.args.old.now c.in_ok-next_root.field-0.root _ c.in_ok-next_root.ensures.follows
    (subst (λ (ds : List Draft). MayBecome (g.F.Folder.seen c.args.folder.now).told (program_of c.args.old.now) c.args.edits.now.edits (drafted ds)) (sym c.as_slice-2.ensures.value)
    (subst (λ (ms : List RootRow). MayBecome (g.F.Folder.seen c.args.folder.now).told (texts_in ms) c.args.edits.now.edits (drafted c.in_ok-drafts.drafts.items)) c.as_slice.ensures c.in_ok-drafts.ensures.program))
