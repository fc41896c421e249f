use Rattle.std.proofs.Common.{◌≡◌, ℕ, true, sym, drop}
use Rattle.std.specs.List.{prefix_len}
use Rattle.std.proofs.lemmas.List.{take_rest}
use Rattle.lex_pieces.specs.Bytes.{is_line_byte, line_ends}
use Rattle.lex_pieces.specs.Escapes.{begins_with}
use Rattle.lex_pieces.proofs.ByteLemmas.{line_at}
use Rattle.lex_pieces.proofs.bytes.tell_slash.Goals as goal

pub returns-then-line_ends : goal.returns-then-line_ends
returns-then-line_ends c =
    let n : ℕ = c.line_bytes-len.result in let rest = drop 1 c.args.bytes.now in
    let second : begins_with 47 rest ≡ true = sym (rw (take_rest c.args.bytes.now 1) at c.if-begins_with_byte.ensures) in
    let is : n ≡ prefix_len is_line_byte (drop 1 rest) = rw (take_rest c.args.bytes.now 1, take_rest rest 1) at c.line_bytes-len.ensures.value in
    let ends : line_ends (drop n (drop 1 rest)) ≡ true = sym (rw (take_rest c.args.bytes.now 1, take_rest rest 1, take_rest (drop 1 rest) n) at c.if-line_ends.ensures) in
    line_at c.args.bytes.now n c.requires second is ends
