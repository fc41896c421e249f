use Rattle.std.proofs.Common.{◌≡◌, get_or, sym, ◌∙◌, ap, subst, ◌+◌, length, drop, arith, Err}
use Rattle.std.proofs.lemmas.Result.{err_from_is_err_and}
use Rattle.type_parser.specs.Nests.{nest_view}
use Rattle.type_parser.specs.Reading.{kinds}
use Rattle.type_parser.proofs.Turns.{length-kinds, next-kind}
use Rattle.code_law.specs.Within.{run_within, read_within}
use Rattle.js_parser.specs.Reading.{forms, phase, Ends}
use Rattle.js_parser.specs.Answer.{Reads}
use Rattle.js_parser.proofs.Rest.{read_fault, read_more, read_end}
use Rattle.js_parser.proofs.read.read_module.Goals as goal

pub returns-in_err-reading : goal.returns-in_err-reading
returns-in_err-reading c =
    let tokens = c.args.tokens.now in
    let x = c.index-tokens-at.result in
    let token = get_or tokens c.loop-at.at x in
    let next = next-kind tokens c.loop-at.at x c.loop-at-test.true in
    let left = err_from_is_err_and c.from_residual.result c.from_residual.ensures.1 in
    let told = read_fault (kinds tokens) _ c.loop-at.at (nest_view c.loop-at.nesting) _ _ token.kind (rw (length-kinds tokens) (omega (arith, c.loop-at-test.true))) next c.loop-at.invariant
    (nest_view c.take.new.nesting) c.take.new.stack c.take.new.types.items _ c.in_err-reading.ensures in
    subst (Reads (kinds tokens)) (sym (left.1 ∙ ap Err (left.2))) told

pub loop-at-preserved : goal.loop-at-preserved
loop-at-preserved c =
    let tokens = c.args.tokens.now in
    let x = c.index-tokens-at.result in
    let token = get_or tokens c.loop-at.at x in
    let next = next-kind tokens c.loop-at.at x c.loop-at-test.true in
    let t = c.in_ok-reading.ensures in
    ap (λ n. run_within (c.loop-at.at + 1) n (forms c.take.new.stack c.in_ok-reading.reading) (phase c.take.new.stack c.take.new.types.items c.in_ok-reading.reading) (drop (c.loop-at.at + 1) (kinds tokens))) (t.0)
    ∙ read_more (kinds tokens) _ c.loop-at.at (nest_view c.loop-at.nesting) _ _ token.kind _ _ next (t.1) c.loop-at.invariant (t.2)

pub returns : goal.returns
returns c =
    let tokens = c.args.tokens.now in
    let l = kinds tokens in
    let e : c.loop-at.at ≡ length tokens = omega (arith, c.loop-at.auto.at-end, c.loop-at-test.false) in
    let k = forms c.loop-at.stack c.loop-at.reading in
    let m = phase c.loop-at.stack c.loop-at.types.items c.loop-at.reading in
    let inv : run_within (length l) (nest_view c.loop-at.nesting) k m (drop (length l) l) ≡ read_within l =
    subst (λ a. run_within a (nest_view c.loop-at.nesting) k m (drop a l) ≡ read_within l) (e ∙ sym (length-kinds tokens)) c.loop-at.invariant in
    read_end l (nest_view c.loop-at.nesting) k m inv _ (subst (λ a. Ends a k m c.finish.result) (sym (length-kinds tokens)) c.finish.ensures)
