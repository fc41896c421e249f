use Rattle.std.proofs.Common.{◌≡◌, ℕ, true, sym, get_or, drop}
use Rattle.std.specs.List.{prefix_len}
use Rattle.std.proofs.lemmas.List.{take_rest}
use Rattle.lex_pieces.specs.Bytes.{is_plain_byte}
use Rattle.lex_pieces.specs.Escapes.{begins_with}
use Rattle.lex_pieces.proofs.ByteLemmas.{string_at}
use Rattle.lex_pieces.proofs.bytes.tell_string.Goals as goal

pub returns-in_ok-value-in-len1-up : goal.returns-in_ok-value-in-len1-up
returns-in_ok-value-in-len1-up c =
    let n : ℕ = c.plain_bytes-len.result in
    let is : n ≡ prefix_len (is_plain_byte (get_or c.args.bytes.now 0 0)) (drop 1 c.args.bytes.now) = rw (take_rest c.args.bytes.now 1) at c.plain_bytes-len.ensures.value in
    let ends : begins_with (get_or c.args.bytes.now 0 0) (drop n (drop 1 c.args.bytes.now)) ≡ true = sym (rw (take_rest c.args.bytes.now 1, take_rest (drop 1 c.args.bytes.now) n) at c.if-not-begins_with_byte.ensures) in
    rw (c.in_ok-value-in-len1-up.ensures, take_rest c.args.bytes.now 1) (string_at c.args.bytes.now n c.requires is ends)
