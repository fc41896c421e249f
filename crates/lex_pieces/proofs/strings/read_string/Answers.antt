use Rattle.std.proofs.Common.{◌≡◌, ◌<◌, true, false, length, sym, drop, arith}
use Rattle.std.specs.String.{string_bytes}
use Rattle.std.proofs.lemmas.List.{take_rest}
use Rattle.lex_pieces.specs.Escapes.{begins_with}
use Rattle.lex_pieces.proofs.Fronts.{front_quote, quote_front}
use Rattle.lex_pieces.proofs.StringReads.{string_read, string_none}
use Rattle.lex_pieces.proofs.strings.read_string.Goals as goal

pub read_parts-requires : goal.read_parts-requires
read_parts-requires c =
    let some : 0 < length c.args.text.now = omega arith in
    front_quote c.args.text.now c.quote-item.result some c.quote-item.is

pub returns-in_ok-from_vec-in-len1-up : goal.returns-in_ok-from_vec-in-len1-up
returns-in_ok-from_vec-in-len1-up c =
    let is = quote_front c.args.text.now c.quote-item.result c.requires c.quote-item.is in
    let read = c.in_ok-value-in-len1-up.ensures in
    let ends : begins_with c.quote-item.result (drop c.in_ok-value-in-len1-up.end c.args.text.now) ≡ true =
    sym (rw (take_rest c.args.text.now c.in_ok-value-in-len1-up.end) at c.if-begins_with.ensures) in
    rw (c.in_ok-from_vec-in-len1-up.ensures, c.into_bytes.ensures.value)
    (string_read c.quote-item.result c.args.text.now c.in_ok-value-in-len1-up.end (string_bytes c.in_ok-value-in-len1-up.value) is read.parts read.within ends)

pub returns-else-begins_with : goal.returns-else-begins_with
returns-else-begins_with c =
    let is = quote_front c.args.text.now c.quote-item.result c.requires c.quote-item.is in
    let read = c.in_ok-value-in-len1-up.ensures in
    let ends : begins_with c.quote-item.result (drop c.in_ok-value-in-len1-up.end c.args.text.now) ≡ false =
    sym (rw (take_rest c.args.text.now c.in_ok-value-in-len1-up.end) at c.if-begins_with.ensures) in
    string_none c.quote-item.result c.args.text.now c.in_ok-value-in-len1-up.end (string_bytes c.in_ok-value-in-len1-up.value) is read.parts read.within read.end ends
