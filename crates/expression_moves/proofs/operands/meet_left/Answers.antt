use Rattle.std.proofs.Common.{Some, reverse}
use Rattle.expression_moves.proofs.Rounds.{ways_through, ways_turned, nested_turned, follows_outer, turned_outer}
use Rattle.expression_moves.proofs.Choosing.{all_and, all_or}
use Rattle.expression_moves.proofs.operands.meet_left.Goals as goal

pub returns-then-is_and-clause-told : goal.returns-then-is_and-clause-told
returns-then-is_and-clause-told c ty =
    let left = reverse c.args.left.items in
    all_and c.args.is_and ty c.args.last left c.in_ok-fork.fork c.in_ok-meet_ways.field-0 c.args.state.now c.split.new.self c.meet_ways.new.self c.if-is_and.true c.in_ok-fork.ensures.now c.in_ok-fork.ensures.arm
    (ways_through left c.args.last (Some c.in_ok-fork.fork) c.args.state.now c.split.new.self c.in_ok-fork.ensures.follows c.requires.left) c.in_ok-meet_ways.ensures.now c.in_ok-meet_ways.ensures.arm

pub returns-then-is_and-clause-follows : goal.returns-then-is_and-clause-follows
returns-then-is_and-clause-follows c =
    follows_outer (reverse c.args.left.items) c.args.last (Some c.in_ok-fork.fork) (Some c.in_ok-meet_ways.field-0) c.args.state.now c.split.new.self c.meet_ways.new.self c.requires.left c.in_ok-fork.ensures.follows c.in_ok-meet_ways.ensures.follows

pub meet_ways-requires-2-clause-left : goal.meet_ways-requires-2-clause-left
meet_ways-requires-2-clause-left c =
    nested_turned (reverse c.args.left.items) c.args.last (Some c.in_ok-fork.fork) (Some c.in_ok-turned.turned) c.args.state.now c.split.new.self c.turn.new.self c.in_ok-fork.ensures.follows c.in_ok-turned.ensures.follows c.requires.left

pub returns-clause-told : goal.returns-clause-told
returns-clause-told c ty =
    let left = reverse c.args.left.items in
    all_or c.args.is_and ty c.args.last left c.in_ok-fork.fork c.in_ok-turned.turned c.in_ok-met.met c.in_ok-turn.field-0 c.args.state.now c.split.new.self c.turn.new.self _ _
    c.if-is_and.false c.in_ok-fork.ensures.now c.in_ok-fork.ensures.arm c.in_ok-turned.ensures.now c.in_ok-turned.ensures.arm (ways_turned left c.args.last (Some c.in_ok-fork.fork) (Some c.in_ok-turned.turned) c.args.state.now c.split.new.self c.turn.new.self c.in_ok-fork.ensures.follows c.in_ok-turned.ensures.follows c.requires.left)
    c.in_ok-met.ensures.now c.in_ok-met.ensures.arm c.in_ok-turn.ensures.now c.in_ok-turn.ensures.arm

pub returns-clause-follows : goal.returns-clause-follows
returns-clause-follows c =
    turned_outer (reverse c.args.left.items) c.args.last (Some c.in_ok-fork.fork) (Some c.in_ok-turned.turned) (Some c.in_ok-met.met) (Some c.in_ok-turn.field-0) c.args.state.now c.split.new.self c.turn.new.self _ _ c.requires.left c.in_ok-fork.ensures.follows c.in_ok-turned.ensures.follows c.in_ok-met.ensures.follows c.in_ok-turn.ensures.follows
