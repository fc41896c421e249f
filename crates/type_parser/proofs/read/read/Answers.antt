use Rattle.std.proofs.Common.{◌≡◌, sym, ◌∙◌, ap, subst, ◌+◌, length, drop, arith}
use Rattle.type_parser.specs.State.{stack_view, mode_view, turn_view}
use Rattle.type_parser.specs.Nests.{nest_view}
use Rattle.js_grammar.specs.Nesting.{is_deep}
use Rattle.type_parser.specs.Within.{run_end, run_within, read_within}
use Rattle.type_parser.specs.Reading.{kinds}
use Rattle.type_parser.proofs.Turns.{length-kinds, next-kind, read_deep, read_more, read_last, gets_end}
use Rattle.type_parser.proofs.read.read.Goals as goal

pub returns-then-is_deep : goal.returns-then-is_deep
returns-then-is_deep c =
    let tokens = c.args.tokens.now in
    let x = c.index-tokens-at.result in
    let n = nest_view c.loop-at.nesting in
    gets_end c.args.plain (kinds tokens) c.args.from c.loop-at.at (stack_view c.loop-at.stack.items) (mode_view c.loop-at.mode)
    (omega (arith, c.loop-at.auto.at)) (rw (length-kinds tokens) (omega (arith, c.loop-at-test.true)))
    (sym (read_deep c.args.plain c.loop-at.at n (stack_view c.loop-at.stack.items) (mode_view c.loop-at.mode) _ _ _ (next-kind tokens c.loop-at.at x c.loop-at-test.true)
    (ap is_deep (sym c.in_ok-take.ensures) ∙ sym c.is_deep.ensures ∙ c.if-is_deep.true)) ∙ c.loop-at.invariant)
    _ c.finish.ensures

pub returns-in-Fault : goal.returns-in-Fault
returns-in-Fault c =
    let tokens = c.args.tokens.now in
    let x = c.index-tokens-at.result in
    let n = nest_view c.loop-at.nesting in (
      omega (arith, c.loop-at.auto.at),
      rw (length-kinds tokens) (omega (arith, c.loop-at-test.true)),
      sym c.loop-at.invariant ∙ read_more c.args.plain c.loop-at.at n (stack_view c.loop-at.stack.items) (mode_view c.loop-at.mode) _ _ _ (next-kind tokens c.loop-at.at x c.loop-at-test.true)
          (ap is_deep (sym c.in_ok-take.ensures) ∙ sym c.is_deep.ensures ∙ c.if-is_deep.false) _ (sym c.in_ok-step.ensures ∙ ap (turn_view c.step.new.stack.items) c.in-Fault.is),
    )

pub returns-in-Done : goal.returns-in-Done
returns-in-Done c =
    let tokens = c.args.tokens.now in
    let x = c.index-tokens-at.result in
    let n = nest_view c.loop-at.nesting in (
      omega (arith, c.loop-at.auto.at),
      rw (length-kinds tokens) (omega (arith, c.loop-at-test.true)),
      sym c.loop-at.invariant ∙ read_more c.args.plain c.loop-at.at n (stack_view c.loop-at.stack.items) (mode_view c.loop-at.mode) _ _ _ (next-kind tokens c.loop-at.at x c.loop-at-test.true)
          (ap is_deep (sym c.in_ok-take.ensures) ∙ sym c.is_deep.ensures ∙ c.if-is_deep.false) _ (sym c.in_ok-step.ensures ∙ ap (turn_view c.step.new.stack.items) c.in-Done.is),
    )

pub loop-at-preserved : goal.loop-at-preserved
loop-at-preserved c =
    let tokens = c.args.tokens.now in
    let x = c.index-tokens-at.result in
    let n = nest_view c.loop-at.nesting in
    ap (λ n. run_within c.args.plain (c.loop-at.at + 1) n (stack_view c.step.new.stack.items) (mode_view c.in-Go.next) (drop (c.loop-at.at + 1) (kinds tokens))) c.in_ok-take.ensures
    ∙ sym (read_more c.args.plain c.loop-at.at n (stack_view c.loop-at.stack.items) (mode_view c.loop-at.mode) _ _ _ (next-kind tokens c.loop-at.at x c.loop-at-test.true)
    (ap is_deep (sym c.in_ok-take.ensures) ∙ sym c.is_deep.ensures ∙ c.if-is_deep.false) _ (sym c.in_ok-step.ensures ∙ ap (turn_view c.step.new.stack.items) c.in-Go.is))
    ∙ c.loop-at.invariant

pub returns : goal.returns
returns c =
    let tokens = c.args.tokens.now in
    let n = nest_view c.loop-at.nesting in
    let k = stack_view c.loop-at.stack.items in
    let m = mode_view c.loop-at.mode in
    let e : c.loop-at.at ≡ length tokens = omega (arith, c.loop-at.auto.at-end, c.loop-at-test.false, c.requires) in
    let inv : run_within c.args.plain (length tokens) n k m (drop (length tokens) (kinds tokens)) ≡ read_within c.args.plain c.args.from (drop c.args.from (kinds tokens)) =
    subst (λ a. run_within c.args.plain a n k m (drop a (kinds tokens)) ≡ read_within c.args.plain c.args.from (drop c.args.from (kinds tokens))) e c.loop-at.invariant in
    let last : run_within c.args.plain (length tokens) n k m (drop (length tokens) (kinds tokens)) ≡ run_end c.args.plain (length tokens) k m (drop (length tokens) (kinds tokens)) =
    subst (λ a. run_within c.args.plain (length tokens) n k m (drop a (kinds tokens)) ≡ run_end c.args.plain (length tokens) k m (drop a (kinds tokens))) (length-kinds tokens)
    (read_last c.args.plain (length tokens) n k m (kinds tokens)) in
    gets_end c.args.plain (kinds tokens) c.args.from (length tokens) k m c.requires (rw (length-kinds tokens) (omega arith)) (sym last ∙ inv) _ c.finish-2.ensures
