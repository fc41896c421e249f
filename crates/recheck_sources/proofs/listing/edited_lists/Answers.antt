use Rattle.std.proofs.Common.{◌≡◌, ℕ, length, take, sym, ap, ◌∙◌, subst, arith}
use Rattle.std.specs.Prelude.{IfSome}
use Rattle.check_values.specs.Roots.{paths_of}
use Rattle.check_values.specs.declared.root.RootRow.{RootRow}
use Rattle.check_phases.specs.program_check.specs.Full.{deps_in}
use Rattle.check_phases.specs.payloads.specs.State.{program_of}
use Rattle.check_phases.specs.Phases.{lists_in}
use Rattle.check_phases.proofs.Edges.{lists_step, every_list}
use Rattle.check_phases.proofs.Merges.{parses_many}
use Rattle.recheck_sources.specs.Keeping.{IsInPlace, ServesOn}
use Rattle.recheck_sources.proofs.Loops.{kept_at, each_more}
use Rattle.recheck_sources.proofs.Steps.{list_next, lists_kept, in_place}
use Rattle.recheck_sources.proofs.listing.edited_lists.Goals as goal

pub next_list-requires-clause-serves : goal.next_list-requires-clause-serves
next_list-requires-clause-serves c =
    let many = parses_many c.args.root.now c.args.parses.now c.requires.parsed in
    let rows = ap length c.as_slice-modules.ensures in
    subst (λ (m : RootRow). IfSome c.in_ok-kept.kept (ServesOn (paths_of c.args.root.now) m.path c.get-parse.result.now c.args.moved.now c.args.stays)) c.index-modules-i.is
    (list_next c.args.was.now c.requires.was c.args.root.now c.args.from.now c.args.fresh.now c.requires.from c.requires.fresh c.as_slice-modules.result.now c.loop-i.i c.as_slice-modules.ensures c.lists_again.ensures.lists c.args.moved.now c.requires.moved c.args.stays c.requires.stays c.args.parses.now
    c.requires.kept c.as_slice-old.result.now c.in_ok-kept.kept c.as_slice-old.ensures.value c.in_ok-kept.ensures (omega arith) c.index-modules-i.result c.index-modules-i.is (omega (arith, many, rows)) c.index-parses-i.result c.get-parse.result.now c.index-parses-i.is c.get-parse.ensures)

pub next_list-requires-clause-came : goal.next_list-requires-clause-came
next_list-requires-clause-came c = let moved = c.requires.moved in moved.came.rising

pub next_list-requires-clause-went : goal.next_list-requires-clause-went
next_list-requires-clause-went c = let moved = c.requires.moved in moved.went.rising

pub loop-i-preserved : goal.loop-i-preserved
loop-i-preserved c = record {
  lists =
      lists_step (paths_of c.args.root.now) c.args.root.now c.as_slice-modules.result.now c.args.parses.now c.loop-i.i c.index-modules-i.result c.index-parses-i.result c.get-parse.result.now c.in_ok-list.list c.loop-i.lists.items c.push.new.self.items
      c.as_slice-modules.ensures (omega arith) (parses_many c.args.root.now c.args.parses.now c.requires.parsed) c.index-modules-i.is c.index-parses-i.is c.get-parse.ensures c.loop-i.invariant.lists
      (c.in_ok-list.ensures.list ∙ ap (λ (m : RootRow). deps_in (paths_of c.args.root.now) m.path c.get-parse.result.now) (sym c.index-modules-i.is)) c.in_ok-push.ensures.items;
  kept = λ stays.
      each_more (λ x list. IsInPlace (kept_at c.args.was.now.lists.items c.args.from.now c.args.fresh.now x) list) c.loop-i.i c.in_ok-list.list c.loop-i.lists.items c.push.new.self.items (c.loop-i.invariant.kept stays)
      (in_place c.as_slice-old.result.now c.args.was.now.lists.items c.args.from.now c.args.fresh.now c.loop-i.i c.in_ok-kept.kept c.in_ok-list.list c.as_slice-old.ensures.value c.in_ok-kept.ensures (c.in_ok-list.ensures.kept stays)) c.in_ok-push.ensures.items;
}

pub returns-clause-lists : goal.returns-clause-lists
returns-clause-lists c =
    let many = parses_many c.args.root.now c.args.parses.now c.requires.parsed in
    let rows = ap length c.as_slice-modules.ensures in
    every_list (paths_of c.args.root.now) c.args.root.now c.args.parses.now c.loop-i.lists.items many (subst (λ (n : ℕ). c.loop-i.lists.items ≡ take n (lists_in (paths_of c.args.root.now) (program_of c.args.root.now) c.args.parses.now)) (omega (arith, rows)) c.loop-i.invariant.lists)

pub returns-clause-kept : goal.returns-clause-kept
returns-clause-kept c = λ stays.
    lists_kept c.args.was.now c.requires.was c.args.root.now c.args.from.now c.args.fresh.now c.requires.from c.requires.fresh c.as_slice-modules.result.now c.loop-i.i c.as_slice-modules.ensures c.loop-i.lists.items (omega arith) (c.loop-i.invariant.kept stays)
