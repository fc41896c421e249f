use Rattle.std.proofs.Common.{◌+◌, arith}
use Rattle.std.proofs.lemmas.List.{get_or_read}
use Rattle.js_lexer.proofs.Steps.{byte_len_more, byte_len_take}
use Rattle.js_lexer.proofs.lexing.utf8_len.Goals as goal

pub overflow_add-len : goal.overflow_add-len
overflow_add-len c =
    omega (
      arith,
      byte_len_more c.args.text.now c.loop-c.c-index c.c-item.result c.loop-c-test.true (get_or_read c.args.text.now c.loop-c.c-index c.c-item.result c.loop-c-test.true c.c-item.is 0),
      byte_len_take c.args.text.now (c.loop-c.c-index + 1),
      c.loop-c.invariant,
      c.len_utf8.ensures.value,
      c.requires,
    )
