-- Moves that the definition of typing has no words for.
use Rattle.std.specs.Prelude.{ℕ, Bool, true, false, List, [], ◌∷◌, Option, Some, None, if◌then◌else◌}
use Rattle.js_grammar.specs.Code.{Operator, nullish, or, and}
use Rattle.js_grammar.specs.Types.{Ty}
use Rattle.type_values.specs.declared.types.FlowType.{FlowType}
use Rattle.flow_facts.specs.declared.place.Place.{Place}
use Rattle.type_values.specs.declared.types.FlowType as made
use Rattle.flow_facts.specs.declared.test.Test.{Test}
use Rattle.flow_facts.specs.declared.test.Test as test
use Rattle.typing.specs.Tests.{assume_on_property}
use Rattle.flow_facts.specs.Known.{Known}
use Rattle.typing.specs.States.{World, Now, Out, no_of, on_yes, on_no, after, plainly, change_facts, change_notes, assume}
use Rattle.typing.specs.TypeFaults.{written, type_read}
use Rattle.typing.specs.Forms as forms
use Rattle.typing.specs.Forms.{cast_asked}
use Rattle.fact_ways.specs.Ways.{all_joined, way_of}
use Rattle.refine_flow.specs.declared.facts.Facts.{Facts}
use Rattle.expression_moves.specs.declared.branches.Chosen.{Chosen}

-- an operator whose sides are both read whatever the left one is
abbrev pub is_plain : Operator → Bool
is_plain nullish = false
is_plain or = false
is_plain and = false
is_plain op = true

-- what the right side of `&&` (true) or `||` is read from
abbrev pub goes_on : Bool → Out → Now
goes_on true o = on_yes o
goes_on false o = on_no o

-- the facts where the right side of `&&` (true) or `||` is not read
abbrev pub leaving : Bool → Out → Known
leaving true o = no_of o
leaving false o = o.yes

-- what a chain of `&&` (true) or `||` gives whose last operand was read, with the ways that left it before, the last one first
abbrev pub met : Bool → List Known → Out → Out
met true ways o = record o { no = Some (all_joined ways (no_of o)) }
met false ways o = record o { yes = all_joined ways o.yes; no = Some (no_of o) }

-- what the right side of `??` is read from, by the type of the left one and what stands behind it
abbrev pub nullish_from : World → Option Place → FlowType → Now → Now
nullish_from w None ty now = now
nullish_from w (Some p) ty now = change_facts (assume w test.Nullish p ty) now

-- The facts where a test of a comparison holds of a place, be it one with a literal or not.
abbrev pub assume_by : World → Bool → Place → Test → Known → Known
assume_by w is_literal p t facts =
    let narrowed = assume w t p made.Any facts in if is_literal then assume_on_property w t p.binding p.prop narrowed else narrowed

-- a branch of a conditional, by facts at which its way stands
abbrev pub chosen_view : Facts → Chosen → forms.Chosen
chosen_view f c = record { first = c.first; ty = c.ty; facts = way_of f c.fork }

-- the branches of a conditional that ends at a token, the last one first, and all that follows them
abbrev pub choices_left : World → ℕ → List forms.Chosen → Out → Out
choices_left w t [] o = o
choices_left w t (c ∷ chosen) o = choices_left w t chosen (forms.choices_out w t (c ∷ []) o)

-- a part behind which a type stands: the chain begins at a token, and the part ends at another one
abbrev pub cast_out : World → ℕ → ℕ → Ty → Bool → Out → Out
cast_out w f at v goes_on a =
    let now = change_notes (λ notes. cast_asked w f at goes_on (written w v) a.ty (type_read w v notes)) (after a) in
    plainly (written w v) now
