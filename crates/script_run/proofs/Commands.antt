-- What the next line of a script means for the walk.
use Rattle.std.proofs.Common.{◌≡◌, ℕ, ◌+◌, ◌<◌, ◌≤◌, List, [], ◌∷◌, length, Option, Some, None, refl, subst, arith}
use Rattle.std.specs.Prelude.{replicate, Result, Ok, Err, IfOk, IfSome, IfNone}
use Rattle.std.proofs.lemmas.List.{length-replicate}
use Rattle.flow_base.specs.Program.{Bytes}
use Rattle.script_reader.specs.Lines.{LINE_LIMIT, TakesLine, IsAtEnd, IsTooLong}
use Rattle.script_run.specs.declared.ending.WalkEnd.{WalkEnd}
use Rattle.script_run.specs.declared.ending.WalkEnd.TheVariants as ending
use Rattle.script_run.specs.declared.command.Command.{Command}
use Rattle.script_run.specs.declared.command.Command.TheVariants as command
use Rattle.script_run.specs.Transcript.{Ends, no_line}
use Rattle.script_run.specs.Steps.{Means, Reads, HasEnd}

-- no line is left
pub at_end : (taken : ℕ) (before : Option (List Bytes)) → IsAtEnd before → HasEnd ending.Finished taken before
at_end taken None end = record { rest = []; lines = tt; ends = no_line }
at_end taken (Some lines) end = record { rest = []; lines = end; ends = no_line }

ends_at : (how : WalkEnd) (taken : ℕ) (bytes : Bytes) (before after : Option (List Bytes)) → TakesLine bytes before after → ((rest : List Bytes) → Ends taken (bytes ∷ rest) how) → HasEnd how taken before
ends_at how taken bytes None after takes ends = record { rest = bytes ∷ []; lines = tt; ends = ends [] }
ends_at how taken bytes (Some lines) None takes ends = absurd (cc)
ends_at how taken bytes (Some lines) (Some rest) takes ends = record { rest = bytes ∷ rest; lines = same lines (bytes ∷ rest) takes; ends = ends rest } where
  same : (a b : List Bytes) → Some a ≡ Some b → a ≡ b
  same a b is = cc

-- a line was read that means this
pub reads_line : (c : Command) (taken : ℕ) (bytes : Bytes) (before after : Option (List Bytes)) → TakesLine bytes before after → length bytes ≤ LINE_LIMIT → Means c taken bytes → Reads c taken before after
reads_line (command.Takes said) taken bytes before after takes short means =
    record { bytes = bytes; takes = takes; few = means.0; short = short; says = means.1; goes_on = means.2 }
reads_line (command.Ends how) taken bytes before after takes short means = ends_at how taken bytes before after takes means

feeds : ℕ → Bytes
feeds n = replicate n 10

long_bytes : (n : ℕ) → length (feeds n) ≡ n
unfolding feeds
long_bytes n = length-replicate n 10

-- the next line is too long
pub reads_long : (how : WalkEnd) (taken : ℕ) (before : Option (List Bytes)) → IsTooLong before → ((bytes : Bytes) (rest : List Bytes) → LINE_LIMIT < length bytes → Ends taken (bytes ∷ rest) how) → HasEnd how taken before
reads_long how taken None long ends =
    record { rest = feeds (LINE_LIMIT + 1) ∷ []; lines = tt; ends = ends (feeds (LINE_LIMIT + 1)) [] (omega (arith, long_bytes (LINE_LIMIT + 1))) }
reads_long how taken (Some []) long ends = absurd long
reads_long how taken (Some (line ∷ lines)) long ends = record { rest = line ∷ lines; lines = refl; ends = ends line lines long }

-- a line was read, and the answer to it says what it means
pub next_reads : {E : Type 0} (r : Result Command E) (taken : ℕ) (found : Option Bytes) (bytes : Bytes) (before after : Option (List Bytes)) → found ≡ Some bytes →
    IfSome found (λ line. TakesLine line before after) → IfSome found (λ line. length line ≤ LINE_LIMIT) → IfOk r (λ c. Means c taken bytes) → IfOk r (λ c. Reads c taken before after)
next_reads (Err e) taken found bytes before after is takes short means = tt
next_reads (Ok c) taken found bytes before after is takes short means =
    reads_line c taken bytes before after (subst (λ o. IfSome o (λ line. TakesLine line before after)) is takes) (subst (λ o. IfSome o (λ line. length line ≤ LINE_LIMIT)) is short) means

pub none_reads : (taken : ℕ) (found : Option Bytes) (before : Option (List Bytes)) → found ≡ None → IfNone found (IsAtEnd before) → HasEnd ending.Finished taken before
none_reads taken found before is end = at_end taken before (subst (λ o. IfNone o (IsAtEnd before)) is end)
