use Rattle.std.proofs.Common.{◌≡◌, ◌∙◌, ℕ, List, ap, sym, drop, subst, length, take, ◌-◌}
use Rattle.std.proofs.lemmas.List.{take_rest}
use Rattle.std.specs.Str.{chars}
use Rattle.lex_pieces.specs.Bytes.{IsTold}
use Rattle.js_lexer.proofs.Steps.{told_step, told_fits}
use Rattle.js_lexer.proofs.lexing.lex_piece.Goals as goal

pub put_told-requires : goal.put_told-requires
put_told-requires c =
    let text : List ℕ = c.args.text.now in
    let same : take (length c.as_bytes.result.now - c.args.at) (drop c.args.at c.as_bytes.result.now) ≡ drop c.args.at text = take_rest c.as_bytes.result.now c.args.at ∙ ap (drop c.args.at) c.as_bytes.ensures.value in
    told_fits (drop c.args.from (chars text)) _ c.args.at c.in-Some.piece (subst (IsTold _) c.in-Some.is c.in_ok-told.ensures) (c.requires.place ∙ sym same) c.requires.fits

pub returns-in_ok-put_told-in-Some-clause-step : goal.returns-in_ok-put_told-in-Some-clause-step
returns-in_ok-put_told-in-Some-clause-step c =
    let text : List ℕ = c.args.text.now in
    let same : take (length c.as_bytes.result.now - c.args.at) (drop c.args.at c.as_bytes.result.now) ≡ drop c.args.at text = take_rest c.as_bytes.result.now c.args.at ∙ ap (drop c.args.at) c.as_bytes.ensures.value in
    told_step (drop c.args.from (chars text)) _ c.args.at c.in-Some.piece c.args.tokens.now c.put_told.new.tokens c.in_ok-put_told-in-Some.field-0 (subst (IsTold _) c.in-Some.is c.in_ok-told.ensures) (c.requires.place ∙ sym same)
    c.in_ok-put_told-in-Some.ensures
