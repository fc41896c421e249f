use Rattle.std.proofs.Common.{◌∙◌, None, sym, rules, length-drop, arith}
use Rattle.std.proofs.lemmas.List.{append-nil}
use Rattle.std.proofs.lemmas.Str.{encodes-chars}
use Rattle.std.specs.Str.{chars}
use Rattle.js_lexer.specs.Step.{slash}
use Rattle.js_lexer.proofs.Steps.{step_tokens, step_stuck, step_bytes, end_tokens, place_more, none_left, few_chars, chars_size}
use Rattle.js_lexer.proofs.Blanks.{blank_longest}
use Rattle.js_lexer.proofs.Unclosed.{slash_longest, unclosed_on, unclosed_found}
use Rattle.js_lexer.proofs.lexing.lex_text.Goals as goal

pub overflow_add-at : goal.overflow_add-at
overflow_add-at c =
    let text = chars c.args.text.now in
    let blank = blank_longest text c.args.text.now c.loop-at.from c.loop-at.at c.loop-at.invariant.place (sym c.is_blank.ensures ∙ c.if-is_blank.true) in
    omega (arith, step_bytes text c.loop-at.from c.loop-at.at 1 1 blank.1 c.loop-at.invariant.bytes, chars_size c.args.text.now c.utf8.text, c.requires)

pub overflow_add-from : goal.overflow_add-from
overflow_add-from c =
    let text = chars c.args.text.now in
    let blank = blank_longest text c.args.text.now c.loop-at.from c.loop-at.at c.loop-at.invariant.place (sym c.is_blank.ensures ∙ c.if-is_blank.true) in
    omega (arith, blank.2, few_chars c.args.text.now c.utf8.text, c.requires)

pub overflow_add-at-then-is_bare : goal.overflow_add-at-then-is_bare
overflow_add-at-then-is_bare c =
    let text = chars c.args.text.now in
    let bare = slash_longest text c.args.text.now c.loop-at.from c.loop-at.at c.loop-at.unclosed c.loop-at.invariant.place c.loop-at.invariant.unclosed (sym c.is_bare.ensures ∙ c.if-is_bare.true) in
    omega (arith, step_bytes text c.loop-at.from c.loop-at.at 1 1 bare.1 c.loop-at.invariant.bytes, chars_size c.args.text.now c.utf8.text, c.requires)

pub overflow_add-from-then-is_bare : goal.overflow_add-from-then-is_bare
overflow_add-from-then-is_bare c =
    let text = chars c.args.text.now in
    let bare = slash_longest text c.args.text.now c.loop-at.from c.loop-at.at c.loop-at.unclosed c.loop-at.invariant.place c.loop-at.invariant.unclosed (sym c.is_bare.ensures ∙ c.if-is_bare.true) in
    omega (arith, bare.2, few_chars c.args.text.now c.utf8.text, c.requires)

pub overflow_add-at-in-loop-at : goal.overflow_add-at-in-loop-at
overflow_add-at-in-loop-at c =
    let step = c.in_ok-len.ensures.step in
    omega (arith, step_bytes (chars c.args.text.now) c.loop-at.from c.loop-at.at c.in_ok-len.len c.in_ok-len.bytes step.4 c.loop-at.invariant.bytes, chars_size c.args.text.now c.utf8.text, c.requires)

pub overflow_add-from-in-loop-at : goal.overflow_add-from-in-loop-at
overflow_add-from-in-loop-at c =
    let text = chars c.args.text.now in
    let step = c.in_ok-len.ensures.step in omega (arith, step.2, length-drop c.loop-at.from text, c.loop-at.invariant.within, few_chars c.args.text.now c.utf8.text, c.requires)

pub loop-at-init : goal.loop-at-init
loop-at-init c = record {
  tokens = λ more has. rw c.in_ok-tokens.ensures has;
  stuck = search rules;
  within = omega arith;
  bytes = omega arith;
  place = encodes-chars c.args.text.now c.utf8.text;
  known = search rules;
  unclosed = search rules;
}

pub loop-at-preserved : goal.loop-at-preserved
loop-at-preserved c =
    let step = c.in_ok-len.ensures.step in
    let before = c.loop-at.invariant in let text = chars c.args.text.now in
    record {
      tokens = step_tokens text c.loop-at.from c.loop-at.at c.in_ok-len.len c.in_ok-len.bytes step.0 c.loop-at.tokens c.lex_piece.new.tokens step.3 step.4 step.5 before.tokens;
      stuck = step_stuck text c.loop-at.from c.loop-at.at c.in_ok-len.len c.in_ok-len.bytes step.0 step.3 step.4 before.stuck;
      within = omega (arith, step.2, length-drop c.loop-at.from text, c.loop-at-test.true);
      bytes = step_bytes text c.loop-at.from c.loop-at.at c.in_ok-len.len c.in_ok-len.bytes step.4 before.bytes;
      place = place_more c.args.text.now text c.loop-at.from c.loop-at.at c.in_ok-len.len c.in_ok-len.bytes before.place step.4;
      known = c.in_ok-len.ensures.known;
      unclosed = λ h. unclosed_found text c.args.text.now c.loop-at.from c.loop-at.at c.in_ok-len.len c.loop-at.unclosed step.0 before.place before.unclosed step.3 (sym c.is_unclosed-unclosed.ensures ∙ h);
    }

pub loop-at-preserved-then-is_blank : goal.loop-at-preserved-then-is_blank
loop-at-preserved-then-is_blank c =
    let before = c.loop-at.invariant in let text = chars c.args.text.now in
    let blank = blank_longest text c.args.text.now c.loop-at.from c.loop-at.at before.place (sym c.is_blank.ensures ∙ c.if-is_blank.true) in
    record {
      tokens = step_tokens text c.loop-at.from c.loop-at.at 1 1 None c.loop-at.tokens c.loop-at.tokens blank.0 blank.1 (sym (append-nil c.loop-at.tokens)) before.tokens;
      stuck = step_stuck text c.loop-at.from c.loop-at.at 1 1 None blank.0 blank.1 before.stuck;
      within = omega (arith, blank.2);
      bytes = step_bytes text c.loop-at.from c.loop-at.at 1 1 blank.1 before.bytes;
      place = place_more c.args.text.now text c.loop-at.from c.loop-at.at 1 1 before.place blank.1;
      known = before.known;
      unclosed = unclosed_on text c.loop-at.from 1 c.loop-at.unclosed before.unclosed;
    }

pub loop-at-preserved-then-is_bare : goal.loop-at-preserved-then-is_bare
loop-at-preserved-then-is_bare c =
    let before = c.loop-at.invariant in let text = chars c.args.text.now in
    let bare = slash_longest text c.args.text.now c.loop-at.from c.loop-at.at c.loop-at.unclosed before.place before.unclosed (sym c.is_bare.ensures ∙ c.if-is_bare.true) in
    record {
      tokens = step_tokens text c.loop-at.from c.loop-at.at 1 1 slash c.loop-at.tokens c.put_slash.new.tokens bare.0 bare.1 c.in_ok-put_slash.ensures before.tokens;
      stuck = step_stuck text c.loop-at.from c.loop-at.at 1 1 slash bare.0 bare.1 before.stuck;
      within = omega (arith, bare.2);
      bytes = step_bytes text c.loop-at.from c.loop-at.at 1 1 bare.1 before.bytes;
      place = place_more c.args.text.now text c.loop-at.from c.loop-at.at 1 1 before.place bare.1;
      known = before.known;
      unclosed = unclosed_on text c.loop-at.from 1 c.loop-at.unclosed before.unclosed;
    }

pub returns : goal.returns
returns c =
    end_tokens (chars c.args.text.now) c.loop-at.from c.loop-at.at c.loop-at.tokens (none_left c.args.text.now (chars c.args.text.now) c.loop-at.from c.loop-at.at c.loop-at.invariant.place (omega arith)) c.loop-at.invariant.tokens
