use Rattle.std.proofs.Common.{◌≡◌, ℕ, true, sym, drop}
use Rattle.std.proofs.lemmas.List.{take_rest}
use Rattle.lex_pieces.specs.Bytes.{ends_told}
use Rattle.lex_pieces.proofs.ByteLemmas.{word_told}
use Rattle.lex_pieces.proofs.bytes.tell_word.Goals as goal

pub returns : goal.returns
returns c =
    let n : ℕ = c.word_bytes-len.result in
    let told : ends_told (drop n c.args.bytes.now) ≡ true = sym (rw (take_rest c.args.bytes.now n) at c.if-not-ends_told.ensures) in
    rw c.in_ok-name.ensures (word_told c.args.bytes.now n c.requires c.word_bytes-len.ensures.value told)
