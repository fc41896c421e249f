use Rattle.std.proofs.Common.{refl, arith}
use Rattle.check_phases.proofs.Fronts.{all_parses}
use Rattle.edited_root.proofs.Users.{many_fresh}
use Rattle.recheck_sources.specs.Keeping.{IsInPlace}
use Rattle.recheck_sources.proofs.Loops.{kept_at, each_more}
use Rattle.recheck_sources.proofs.Placing.{next_there, parse_placed, next_after}
use Rattle.recheck_sources.proofs.Steps.{parses_kept, in_place}
use Rattle.recheck_sources.proofs.parsing.placed_parses.Goals as goal

pub kept_or_next-requires : goal.kept_or_next-requires
kept_or_next-requires c =
    next_there c.args.was.now c.requires.was c.args.root.now c.args.from.now c.args.fresh.now c.requires.from c.requires.fresh c.args.said.now c.requires.said c.loop-i.i (omega arith) c.as_slice-old.result.now c.in_ok-kept.kept c.as_slice-old.ensures.value c.in_ok-kept.ensures
    c.loop-i.next c.loop-i.invariant.next

pub loop-i-preserved : goal.loop-i-preserved
loop-i-preserved c = record {
  parses = parse_placed c.args.was.now c.requires.was c.args.root.now c.args.from.now c.args.fresh.now c.requires.from c.requires.fresh c.args.said.now c.requires.said c.loop-i.i (omega arith) c.as_slice-old.result.now c.in_ok-kept.kept c.as_slice-old.ensures.value c.in_ok-kept.ensures
      c.loop-i.next c.loop-i.invariant.next c.in_ok-parse.parse c.loop-i.parses.items _ c.in_ok-parse.ensures.kept c.in_ok-parse.ensures.made c.loop-i.invariant.parses c.in_ok-push.ensures.items;
  kept = each_more (λ x parse. IsInPlace (kept_at c.args.was.now.parses.items c.args.from.now c.args.fresh.now x) parse) c.loop-i.i c.in_ok-parse.parse c.loop-i.parses.items _ c.loop-i.invariant.kept
      (in_place c.as_slice-old.result.now c.args.was.now.parses.items c.args.from.now c.args.fresh.now c.loop-i.i c.in_ok-kept.kept c.in_ok-parse.parse c.as_slice-old.ensures.value c.in_ok-kept.ensures c.in_ok-parse.ensures.kept) c.in_ok-push.ensures.items;
  next = next_after c.args.was.now c.requires.was c.args.root.now c.args.from.now c.args.fresh.now c.requires.from c.requires.fresh c.args.said.now c.requires.said c.loop-i.i (omega arith) c.as_slice-old.result.now c.in_ok-kept.kept c.as_slice-old.ensures.value c.in_ok-kept.ensures
      c.loop-i.next c.loop-i.invariant.next _ c.in_ok-parse.ensures.next;
}

pub returns-clause-parsed : goal.returns-clause-parsed
returns-clause-parsed c =
    let many = many_fresh c.args.was.now.root c.args.root.now c.args.fresh.now c.requires.fresh in
    all_parses c.args.root.now c.args.root.now.modules c.loop-i.i _ refl (omega (arith, many)) c.loop-i.invariant.parses

pub returns-clause-kept : goal.returns-clause-kept
returns-clause-kept c =
    let many = many_fresh c.args.was.now.root c.args.root.now c.args.fresh.now c.requires.fresh in
    parses_kept c.args.was.now c.requires.was c.args.root.now c.args.from.now c.args.fresh.now c.requires.from c.requires.fresh c.args.root.now.modules c.loop-i.i refl c.loop-i.parses.items (omega (arith, many)) c.loop-i.invariant.kept
