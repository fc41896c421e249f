use Rattle.std.proofs.Common.{◌≡◌, ◌∙◌, ℕ, true, sym, ap, drop, take, Some}
use Rattle.std.specs.List.{list_all}
use Rattle.std.proofs.lemmas.List.{take_rest}
use Rattle.lex_pieces.specs.Bytes.{is_ascii}
use Rattle.lex_pieces.specs.Comments.{closed_len}
use Rattle.lex_pieces.proofs.ByteLemmas.{block_at}
use Rattle.lex_pieces.proofs.bytes.tell_block.Goals as goal

pub returns-then-are_ascii : goal.returns-then-are_ascii
returns-then-are_ascii c =
    let bytes = c.args.bytes.now in let n : ℕ = c.in-Some.len in
    let is : closed_len (drop 2 bytes) ≡ Some n = sym (rw (take_rest bytes 2) at c.closed_bytes.ensures.value) ∙ c.in-Some.is in
    let low : list_all is_ascii (take n (drop 2 bytes)) ≡ true = sym (rw (take_rest bytes 2) at c.if-are_ascii.ensures) in
    block_at bytes n c.requires.slash c.requires.star is low
