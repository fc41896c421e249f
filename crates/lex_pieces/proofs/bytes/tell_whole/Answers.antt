use Rattle.std.proofs.Common.{◌≡◌, ℕ, true, sym, drop}
use Rattle.std.proofs.lemmas.List.{take_rest}
use Rattle.lex_pieces.specs.Bytes.{stops_whole}
use Rattle.lex_pieces.proofs.ByteLemmas.{whole_told}
use Rattle.lex_pieces.proofs.bytes.tell_whole.Goals as goal

pub returns : goal.returns
returns c =
    let n : ℕ = c.digit_bytes-len.result in
    let stops : stops_whole (drop n c.args.bytes.now) ≡ true = sym (rw (take_rest c.args.bytes.now n) at c.if-not-stops_whole.ensures) in
    rw c.in_ok-number.ensures (whole_told c.args.bytes.now n c.requires c.digit_bytes-len.ensures.value (sym c.if-not-is_whole.ensures) stops)
