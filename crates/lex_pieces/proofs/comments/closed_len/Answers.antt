use Rattle.std.proofs.Common.{◌≡◌, ◌<◌, false, sym, ◌∙◌, length, drop, arith}
use Rattle.std.proofs.lemmas.List.{take_rest}
use Rattle.lex_pieces.specs.Comments.{closes}
use Rattle.lex_pieces.proofs.Closing.{not_here}
use Rattle.lex_pieces.proofs.comments.closed_len.Goals as goal

pub loop-at-preserved : goal.loop-at-preserved
loop-at-preserved c =
    let before : c.loop-at.at < length c.args.text.now = omega arith in
    let open_yet : closes (drop c.loop-at.at c.args.text.now) ≡ false =
    sym (rw (take_rest c.args.text.now c.loop-at.at) at c.if-closes.ensures.value) in
    not_here c.loop-at.at c.args.text.now before open_yet ∙ c.loop-at.invariant
