use Rattle.std.proofs.Common.{◌≡◌, ◌<◌, false, sym, ◌∙◌, length, drop, arith}
use Rattle.std.proofs.lemmas.List.{take_rest}
use Rattle.lex_pieces.specs.Comments.{closes}
use Rattle.lex_pieces.proofs.Closing.{not_here}
use Rattle.lex_pieces.proofs.bytes.closed_bytes.Goals as goal

pub loop-at-preserved : goal.loop-at-preserved
loop-at-preserved c =
    let before : c.loop-at.at < length c.args.bytes.now = omega arith in
    let open_yet : closes (drop c.loop-at.at c.args.bytes.now) ≡ false =
    sym (rw (take_rest c.args.bytes.now c.loop-at.at) at c.if-closes.ensures.value) in
    not_here c.loop-at.at c.args.bytes.now before open_yet ∙ c.loop-at.invariant
