use Rattle.std.proofs.Common.{drop, arith}
use Rattle.std.proofs.lemmas.List.{take_rest}
use Rattle.js_lexer.proofs.Steps.{byte_len_take}
use Rattle.js_lexer.proofs.lexing.lex_decoded.Goals as goal

pub utf8_len-bytes-requires : goal.utf8_len-bytes-requires
utf8_len-bytes-requires c =
    rw (take_rest c.args.text.now c.args.from)
    (omega (arith, byte_len_take (drop c.args.from c.args.text.now) c.in-Some.field-0.len, c.requires.fits))

pub overflow_add-span : goal.overflow_add-span
overflow_add-span c =
    omega (
      arith,
      byte_len_take (drop c.args.from c.args.text.now) c.in-Some.field-0.len,
      c.requires.fits,
      rw (take_rest c.args.text.now c.args.from) at c.utf8_len-bytes.ensures,
    )
