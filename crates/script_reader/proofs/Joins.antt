-- Lines that are read in parts.
use Rattle.std.proofs.Common.{◌≡◌, ℕ, ◌==◌, ◌<◌, ◌≤◌, List, [], ◌∷◌, ◌++◌, length, Option, Some, None, refl, sym, ap, ◌∙◌, subst, ◌+◌, ◌*◌, ◌-◌, append_assoc, arith, length-append, Bool, true, false, if◌then◌else◌}
use Rattle.std.specs.Option.{option_map}
use Rattle.std.specs.List.{onto_first}
use Rattle.std.proofs.lemmas.List.{append-nil}
use Rattle.std.proofs.lemmas.List.Elements.{All-head, All-tail, All-append}
use Rattle.flow_base.specs.Program.{Bytes}
use Rattle.script_reader.specs.declared.reader.Step.{Step}
use Rattle.script_reader.specs.declared.reader.Step.TheVariants.{More, Line, End}
use Rattle.script_reader.specs.Steps.{Steps, Reads, TakesSome, TakesRest, HasEnded}
use Rattle.script_reader.specs.Window.{TakesPart}
use Rattle.script_reader.specs.Lines.{FEED, HasNoFeed, script_lines, bytes_left, TakesBytes, TakesFront, BreaksLine, TakesLine, IsAtEnd, IsTooLong, FirstLine, HasLine, LINE_LIMIT}

-- the lines, where these bytes go before the first one
abbrev joined : Bytes → List Bytes → List Bytes
joined [] [] = []
joined (b ∷ begun) [] = (b ∷ begun) ∷ []
joined begun (line ∷ lines) = (begun ++ line) ∷ lines

onto_joined : (b : ℕ) (begun : Bytes) (lines : List Bytes) → onto_first b (joined begun lines) ≡ joined (b ∷ begun) lines
onto_joined b [] [] = refl
onto_joined b (c ∷ begun) [] = refl
onto_joined b begun (line ∷ lines) = refl

-- bytes without an LF go before the first line
lines_joined : (part rest : Bytes) → HasNoFeed part → script_lines (part ++ rest) ≡ joined part (script_lines rest)
lines_joined [] rest none = nothing (script_lines rest) where
  nothing : (lines : List Bytes) → lines ≡ joined [] lines
  nothing [] = refl
  nothing (line ∷ lines) = refl
lines_joined (b ∷ part) rest none =
    ap (λ t. if t then [] ∷ script_lines (part ++ rest) else onto_first b (script_lines (part ++ rest))) (All-head (λ c. (c == FEED) ≡ false) b part none)
    ∙ ap (onto_first b) (lines_joined part rest (All-tail (λ c. (c == FEED) ≡ false) b part none))
    ∙ onto_joined b part (script_lines rest)

joined_line : (a b : Bytes) (lines : List Bytes) → joined a (b ∷ lines) ≡ (a ++ b) ∷ lines
joined_line [] b lines = refl
joined_line (x ∷ a) b lines = refl

line_taken : (line rest : Bytes) → HasNoFeed line → script_lines ((line ++ FEED ∷ []) ++ rest) ≡ line ∷ script_lines rest
line_taken line rest none =
    ap script_lines (append_assoc line (FEED ∷ []) rest)
    ∙ lines_joined line (FEED ∷ rest) none
    ∙ joined_line line [] (script_lines rest)
    ∙ ap (λ l. l ∷ script_lines rest) (append-nil line)

-- ---- bytes

no_feed : HasNoFeed []
no_feed = λ k d within. absurd (omega (arith, within))

unchanged : (bytes : Option Bytes) → TakesBytes [] bytes bytes
unchanged None = refl
unchanged (Some bytes) = refl

twice : (a b : Bytes) (before mid after : Option Bytes) → TakesBytes a before mid → TakesBytes b mid after → TakesBytes (a ++ b) before after
twice a b before mid None first second = first ∙ ap (option_map (λ rest. a ++ rest)) second
twice a b before mid (Some rest) first second = first ∙ ap (option_map (λ rest. a ++ rest)) second ∙ ap Some (sym (append_assoc a b rest))

ahead_taken : (front ahead ahead' : Bytes) (left : Option Bytes) → ahead ≡ front ++ ahead' → TakesBytes front (bytes_left ahead left) (bytes_left ahead' left)
ahead_taken front ahead ahead' None is = refl
ahead_taken front ahead ahead' (Some rest) is = ap Some (ap (λ a. a ++ rest) is ∙ append_assoc front ahead' rest)

-- ---- the window

-- what was read ahead stands before what is left
pub filled_bytes : (before after : Option Bytes) (ahead : Bytes) → before ≡ option_map (λ left. ahead ++ left) after → bytes_left ahead after ≡ bytes_left [] before
filled_bytes before after ahead is = sym is ∙ unchanged before

pub ended_ahead : (ahead : Bytes) (left : Option Bytes) → ahead ≡ [] → HasEnded left → HasEnded (bytes_left ahead left)
ended_ahead ahead None none end = tt
ended_ahead ahead (Some rest) none end = ap (λ a. a ++ rest) none ∙ end

-- where a whole line is in hand, something is
pub some_in_hand : (ahead : Bytes) → HasLine ahead → 0 < length ahead
some_in_hand [] line = absurd (line no_feed)
some_in_hand (b ∷ ahead) line = omega arith

taken : (ahead ahead' line line' : Bytes) (left : Option Bytes) → TakesPart ahead ahead' line line' true → Steps Line line line' (bytes_left ahead left) (bytes_left ahead' left)
taken ahead ahead' line line' left (part, none, is, line_is) =
    (part, line_is, (none, ahead_taken (part ++ FEED ∷ []) ahead ahead' left (is ∙ sym (append_assoc part (FEED ∷ []) ahead'))))

longer : (line line' part : Bytes) → 0 < length part → line' ≡ line ++ part → length line < length line'
longer line line' part some is = omega (arith, ap length is ∙ length-append line part)

gone_on : (ahead ahead' line line' : Bytes) (left : Option Bytes) → 0 < length ahead → TakesPart ahead ahead' line line' false → Steps More line line' (bytes_left ahead left) (bytes_left ahead' left)
gone_on ahead ahead' line line' left some (is, none, line_is) =
    (ahead, line_is, longer line line' ahead some line_is, (none, ahead_taken ahead ahead ahead' left (sym (append-nil ahead) ∙ ap (λ a. ahead ++ a) (sym is))))

-- a line whose LF is there
pub part_taken : (ahead ahead' line line' : Bytes) (left : Option Bytes) (before : Option Bytes) (met : Bool) → met ≡ true → bytes_left ahead left ≡ before → TakesPart ahead ahead' line line' met → Steps Line line line' before (bytes_left ahead' left)
part_taken ahead ahead' line line' left before met is same takes =
    subst (λ b. Steps Line line line' b (bytes_left ahead' left)) same (taken ahead ahead' line line' left (subst (TakesPart ahead ahead' line line') is takes))

-- one whose LF isn't
pub part_gone_on : (ahead ahead' line line' : Bytes) (left : Option Bytes) (before : Option Bytes) (met : Bool) → met ≡ false → 0 < length ahead → bytes_left ahead left ≡ before → TakesPart ahead ahead' line line' met
    → Steps More line line' before (bytes_left ahead' left)
part_gone_on ahead ahead' line line' left before met is some same takes =
    subst (λ b. Steps More line line' b (bytes_left ahead' left)) same (gone_on ahead ahead' line line' left some (subst (TakesPart ahead ahead' line line') is takes))

-- ---- the line

some_twice : (a b : Bytes) (before mid after : Option Bytes) → TakesSome a before mid → TakesSome b mid after → TakesSome (a ++ b) before after
some_twice a b before mid after first second = (All-append (λ c. (c == FEED) ≡ false) a b first.0 second.0, twice a b before mid after first.1 second.1)

then_rest : (a b : Bytes) (before mid after : Option Bytes) → TakesSome a before mid → TakesRest b mid after → TakesRest (a ++ b) before after
then_rest a b before mid after first second = (
  All-append (λ c. (c == FEED) ≡ false) a b first.0 second.0,
  subst (λ f. TakesBytes f before after) (sym (append_assoc a b (FEED ∷ []))) (twice a (b ++ FEED ∷ []) before mid after first.1 second.1),
)

-- a step further
pub read_on : (step : Step) (line line' : Bytes) (before mid after : Option Bytes) → TakesSome line before mid → Steps step line line' mid after → Reads step line' before after
read_on More line line' before mid after on (part, is, grows, takes) = subst (λ l. TakesSome l before after) (sym is) (some_twice line part before mid after on takes)
read_on Line line line' before mid after on (part, is, takes) = subst (λ l. TakesRest l before after) (sym is) (then_rest line part before mid after on takes)
read_on End line line' before mid after on (is, end, same) =
    (subst (λ l. TakesSome l before after) (sym is) (subst (TakesSome line before) (sym same) on), subst HasEnded (sym same) end)

pub nothing_read : (before : Option Bytes) → TakesSome [] before before
nothing_read before = (no_feed, unchanged before)

first_joined : (line : Bytes) (lines : List Bytes) → LINE_LIMIT < length line → FirstLine (λ l. LINE_LIMIT < length l) (joined line lines)
first_joined [] lines long = absurd (omega arith)
first_joined (b ∷ line) [] long = long
first_joined (b ∷ line) (l ∷ lines) long = omega (arith, length-append (b ∷ line) l)

too_long_on : (line : Bytes) (before after : Option Bytes) → LINE_LIMIT < length line → TakesSome line before after → IsTooLong (option_map script_lines before)
too_long_on line before None long (none, is) = subst (λ b. IsTooLong (option_map script_lines b)) (sym is) tt
too_long_on line before (Some rest) long (none, is) =
    subst (λ b. IsTooLong (option_map script_lines b)) (sym is)
    (subst (FirstLine (λ l. LINE_LIMIT < length l)) (sym (lines_joined line rest none)) (first_joined line (script_lines rest) long))

too_long_line : (line : Bytes) (before after : Option Bytes) → LINE_LIMIT < length line → TakesRest line before after → IsTooLong (option_map script_lines before)
too_long_line line before None long (none, is) = subst (λ b. IsTooLong (option_map script_lines b)) (sym is) tt
too_long_line line before (Some rest) long (none, is) =
    subst (λ b. IsTooLong (option_map script_lines b)) (sym is) (subst (FirstLine (λ l. LINE_LIMIT < length l)) (sym (line_taken line rest none)) long)

-- a line that grew too long
pub is_too_long : (step : Step) (line : Bytes) (before after : Option Bytes) → LINE_LIMIT < length line → Reads step line before after → IsTooLong (option_map script_lines before)
is_too_long More line before after long reads = too_long_on line before after long reads
is_too_long Line line before after long reads = too_long_line line before after long reads
is_too_long End line before after long reads = too_long_on line before after long reads.0

-- nothing was left
pub none_left : (line : Bytes) (before after : Option Bytes) → line ≡ [] → Reads End line before after → IsAtEnd (option_map script_lines before)
none_left line before None empty reads = subst (λ b. IsAtEnd (option_map script_lines b)) (sym reads.0.1) tt
none_left line before (Some rest) empty reads = subst (λ b. IsAtEnd (option_map script_lines b)) (sym reads.0.1) (ap script_lines (ap (λ l. l ++ rest) empty ∙ reads.1))

took_rest : (line : Bytes) (before after : Option Bytes) → TakesRest line before after → TakesLine line (option_map script_lines before) (option_map script_lines after)
took_rest line before None (none, is) = ap (option_map script_lines) is
took_rest line before (Some rest) (none, is) = ap (option_map script_lines) is ∙ ap Some (line_taken line rest none)

last_line : (line : Bytes) (before after : Option Bytes) → 0 < length line → TakesSome line before after → HasEnded after → TakesLine line (option_map script_lines before) (option_map script_lines after)
last_line [] before after some takes end = absurd (omega arith)
last_line (b ∷ line) before None some (none, is) end = ap (option_map script_lines) is
last_line (b ∷ line) before (Some rest) some (none, is) end =
    ap (option_map script_lines) is
    ∙ ap Some (lines_joined (b ∷ line) rest none ∙ ap (λ r. joined (b ∷ line) (script_lines r)) end ∙ sym (ap (λ r. (b ∷ line) ∷ script_lines r) end))

-- a line was read to its LF, or to the end of the bytes
pub took_line : (step : Step) (line : Bytes) (before after : Option Bytes) → (step ≡ More → ⊥) → (step ≡ End → 0 < length line) → Reads step line before after
    → TakesLine line (option_map script_lines before) (option_map script_lines after)
took_line More line before after stops some reads = absurd (stops refl)
took_line Line line before after stops some reads = took_rest line before after reads
took_line End line before after stops some reads = last_line line before after (some refl) reads.0 reads.1

-- all that was read stood in front
pub took_front : (step : Step) (line : Bytes) (before after : Option Bytes) → Reads step line before after → TakesFront before after
took_front More line before after reads = (line, reads.1)
took_front Line line before after reads = (line ++ FEED ∷ [], reads.1)
took_front End line before after reads = (line, reads.0.1)

-- a step that failed took nothing more
pub front_kept : (line : Bytes) (before mid after : Option Bytes) → after ≡ mid → Reads More line before mid → TakesFront before after
front_kept line before mid after same reads = (line, subst (TakesBytes line before) (sym same) reads.1)

pub broke : (line : Bytes) (before mid after : Option Bytes) → after ≡ mid → Reads More line before mid → BreaksLine before after
broke line before mid after same reads = (line, reads.0, subst (TakesBytes line before) (sym same) reads.1)

pub nothing_taken : (before after : Option Bytes) → after ≡ before → TakesFront before after
nothing_taken before after same = ([], subst (TakesBytes [] before) (sym same) (unchanged before))

pub broke_at_once : (before after : Option Bytes) → after ≡ before → BreaksLine before after
broke_at_once before after same = ([], no_feed, subst (TakesBytes [] before) (sym same) (unchanged before))

-- ---- the measure

abbrev pub weight : Step → ℕ
weight More = 1
weight Line = 0
weight End = 0

abbrev pub work_left : Step → Bytes → ℕ
work_left step line = 2 * (LINE_LIMIT + 1 - length line) + weight step

pub less_left : (step : Step) (line line' : Bytes) (before after : Option Bytes) → length line ≤ LINE_LIMIT → Steps step line line' before after → work_left step line' < work_left More line
less_left More line line' before after short (part, is, grows, takes) = omega arith
less_left Line line line' before after short (part, is, takes) = omega (arith, ap length is ∙ length-append line part)
less_left End line line' before after short (is, end, same) = omega (arith, ap length is)
