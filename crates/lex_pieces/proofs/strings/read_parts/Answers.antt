use Rattle.std.proofs.Common.{ℕ, ◌+◌, List, sym, subst}
use Rattle.std.specs.String.{string_bytes}
use Rattle.lex_pieces.specs.Strings.{ReadsParts}
use Rattle.lex_pieces.proofs.StringReads.{reads_more}
use Rattle.lex_pieces.proofs.strings.read_parts.Goals as goal

pub loop-c-preserved : goal.loop-c-preserved
loop-c-preserved c = (
  subst (λ (v : List ℕ). ReadsParts c.args.quote c.args.text.now (c.loop-c.at + c.in-Some.len) v) (sym c.in_ok-push.ensures.bytes)
      (reads_more c.args.quote c.args.text.now c.loop-c.at c.in-Some.c c.in-Some.len (string_bytes c.loop-c.value) c.loop-c.invariant.0 (sym c.in-Some.ensures.value)),
  c.in-Some.ensures.within.1,
)
