-- Where a token stands in the forms that are open.
use Rattle.std.specs.Prelude.{Bool, true, false, List, [], ◌∷◌}
use Rattle.code_state.specs.declared.frames.Nearest.{Nearest}
use Rattle.code_state.specs.declared.frames.Nearest.TheVariants as nearest
use Rattle.code_state.specs.declared.frames.Place.{Place}
use Rattle.code_state.specs.declared.frames.OperatorFrame.{OperatorFrame}
use Rattle.code_state.specs.declared.frames.OperatorFrame.TheVariants as operator
use Rattle.code_state.specs.declared.frames.TailFrame.{TailFrame}
use Rattle.code_state.specs.declared.frames.TailFrame.TheVariants as tail
use Rattle.code_state.specs.declared.frames.BodyFrame.{BodyFrame}
use Rattle.code_state.specs.declared.frames.BodyFrame.TheVariants as body
use Rattle.code_state.specs.declared.frames.Frame.{Frame}
use Rattle.code_state.specs.declared.frames.Frame.TheVariants as frame
use Rattle.code_state.specs.declared.frames.Entry.{Entry}

abbrev pub top : Place
top = record { in_function = false; in_loop = false; nearest = nearest.Other }

abbrev pub nearest_operator : OperatorFrame → Nearest
nearest_operator (operator.Prefix s ps) = nearest.Prefix
nearest_operator (operator.Chain c d o) = nearest.Chain

abbrev pub nearest_tail : TailFrame → Nearest
nearest_tail (tail.Last s hs) = nearest.Last
nearest_tail (tail.Arrow g) = nearest.Other

abbrev pub entered_body : Place → BodyFrame → Place
entered_body p (body.Function h g) = record { in_function = true; in_loop = false; nearest = nearest.Other }
entered_body p (body.Arrow g) = record { in_function = true; in_loop = false; nearest = nearest.Other }
entered_body p (body.Block b) = record { in_function = p.in_function; in_loop = p.in_loop; nearest = nearest.Other }
entered_body p (body.If b a e) = record { in_function = p.in_function; in_loop = p.in_loop; nearest = nearest.Other }
entered_body p (body.Else b) = record { in_function = p.in_function; in_loop = p.in_loop; nearest = nearest.Other }
entered_body p (body.Loop s e) = record { in_function = p.in_function; in_loop = true; nearest = nearest.Other }

-- in a form that stands at a place
abbrev pub entered : Place → Frame → Place
entered p (frame.Operator f) = record { in_function = p.in_function; in_loop = p.in_loop; nearest = nearest_operator f }
entered p (frame.Tail f) = record { in_function = p.in_function; in_loop = p.in_loop; nearest = nearest_tail f }
entered p (frame.Inner f) = record { in_function = p.in_function; in_loop = p.in_loop; nearest = nearest.Other }
entered p (frame.Value f) = record { in_function = p.in_function; in_loop = p.in_loop; nearest = nearest.Other }
entered p (frame.Body f) = entered_body p f

-- in all of these forms, the first outermost
abbrev pub within : Place → List Entry → Place
within p [] = p
within p (e ∷ es) = within (entered p e.frame) es

-- where each form stands
abbrev pub befores : Place → List Entry → List Place
befores p [] = []
befores p (e ∷ es) = p ∷ befores (entered p e.frame) es

-- an arrow is no operand
abbrev pub takes_arrow : Nearest → Bool
takes_arrow nearest.Prefix = false
takes_arrow nearest.Chain = false
takes_arrow nearest.Last = true
takes_arrow nearest.Other = true
