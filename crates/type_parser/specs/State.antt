-- What the reader's state stands for.
use Rattle.std.specs.Prelude.{◌≡◌, ℕ, suc, Bool, false, List, [], ◌∷◌, Option, Some, None}
use Rattle.js_grammar.specs.Types.{Places, no_place, more_place, Base, pre, post, more_pre, Ty, Params, no_param, more_param, plain}
use Rattle.js_grammar.specs.Machine.{Open, open_at, start_base, Frame as Form, in_array, in_group, in_named, in_result, in_tuple, in_prop, Mode as Phase, want, want_pre, after_base, after_bracket, after_array, group_start, group_name, group_mark, closed, tuple_start, object_start, after_dots, after_sign, after_key, after_mark, Stack, Step, fault, go, done}
use Rattle.type_tree.specs.declared.types.TypeTree.{TypeTree}
use Rattle.type_tree.specs.View.{type_view, base_view, places_view, pres_view, params_view, types_view, props_view, sign_view, key_view}
use Rattle.type_parser.specs.declared.state.OpenUnion.{OpenUnion}
use Rattle.type_parser.specs.declared.state.Frame.{Frame}
use Rattle.type_parser.specs.declared.state.Frame.TheVariants as frame
use Rattle.type_parser.specs.declared.state.Mode.{Mode}
use Rattle.type_parser.specs.declared.state.Mode.TheVariants as mode
use Rattle.type_parser.specs.declared.state.Turn.{Turn}
use Rattle.type_parser.specs.declared.state.Turn.TheVariants as turn

-- a union that is open
abbrev pub open_view : OpenUnion → Open
open_view u = open_at u.first u.lead (pres_view u.members) u.start (places_view u.marks)

-- a form that waits for a type
abbrev pub frame_view : Frame → Form
frame_view (frame.Array a) = in_array (open_view a.open) a.first a.read_only
frame_view (frame.Group g) = in_group (open_view g.open) g.first (params_view g.params)
frame_view (frame.Named n o) = in_named (open_view n.group.open) n.group.first (params_view n.group.params) n.start n.name o
frame_view (frame.Output g c) = in_result (open_view g.open) g.first (params_view g.params) c
frame_view (frame.Tuple t) = in_tuple (open_view t.open) t.first (types_view t.types)
frame_view (frame.Prop k o) =
    in_prop (open_view k.signed.object.open) k.signed.object.first (props_view k.signed.object.props) k.signed.start (sign_view k.signed.sign) (key_view k.key) o

-- what may come next
abbrev pub mode_view : Mode → Phase
mode_view mode.Want = want
mode_view (mode.WantPre u) = want_pre (open_view u)
mode_view (mode.AfterBase b) = after_base (open_view b.open) (base_view b.base) (places_view b.brackets)
mode_view (mode.AfterBracket b j) = after_bracket (open_view b.open) (base_view b.base) (places_view b.brackets) j
mode_view (mode.AfterArray a) = after_array (open_view a.open) a.first a.read_only
mode_view (mode.GroupStart g) = group_start (open_view g.open) g.first (params_view g.params)
mode_view (mode.GroupName n) = group_name (open_view n.group.open) n.group.first (params_view n.group.params) n.start n.name
mode_view (mode.GroupMark n) = group_mark (open_view n.group.open) n.group.first (params_view n.group.params) n.start n.name
mode_view (mode.Closed g c) = closed (open_view g.open) g.first (params_view g.params) c
mode_view (mode.TupleStart t) = tuple_start (open_view t.open) t.first (types_view t.types)
mode_view (mode.ObjectStart o) = object_start (open_view o.open) o.first (props_view o.props)
mode_view (mode.AfterDots o) = after_dots (open_view o.open) o.first (props_view o.props)
mode_view (mode.AfterSign s) = after_sign (open_view s.object.open) s.object.first (props_view s.object.props) s.start (sign_view s.sign)
mode_view (mode.AfterKey k) =
    after_key (open_view k.signed.object.open) k.signed.object.first (props_view k.signed.object.props) k.signed.start (sign_view k.signed.sign) (key_view k.key)
mode_view (mode.AfterMark k) =
    after_mark (open_view k.signed.object.open) k.signed.object.first (props_view k.signed.object.props) k.signed.start (sign_view k.signed.sign) (key_view k.key)

-- the union behind a member that ends before a bar at this place
abbrev pub next_open : ℕ → Open → Base → Places → Open
next_open i (open_at f lead m p q) b bs = open_at f lead (more_pre m (pre p i q (post (start_base b) i b bs))) (suc i) no_place

-- the union with one question mark more
abbrev pub marked_open : ℕ → Open → Open
marked_open i (open_at f lead m p q) = open_at f lead m p (more_place q i)

-- the last frame is the top
abbrev pub stacked : Stack → List Frame → Stack
stacked k [] = k
stacked k (f ∷ fs) = stacked (frame_view f ∷ k) fs

-- the forms that are open, where the reader keeps the innermost last
unfoldable pub stack_view : List Frame → Stack
stack_view fs = stacked [] fs

-- what a turn of the reader does, once the open forms are these frames
abbrev pub turn_view : List Frame → Turn → Step
turn_view fs turn.Fault = fault
turn_view fs (turn.Go m) = go (stack_view fs) (mode_view m)
turn_view fs (turn.Done t) = done (type_view t)

-- the turn does this step of the stack, whatever forms are open
abbrev pub Gives : Turn → (Stack → Step) → Type 0
Gives t f = (fs : List Frame) → turn_view fs t ≡ f (stack_view fs)

-- a tree was given, and it stands for this type
abbrev pub IsSomeOf : Ty → Option TypeTree → Type 0
IsSomeOf t None = ⊥
IsSomeOf t (Some s) = t ≡ type_view s

-- the one type that the group consists of, if it does
abbrev pub IsSingle : Params → Bool → Option TypeTree → Type 0
IsSingle (more_param no_param (plain t)) false r = IsSomeOf t r
IsSingle _ _ r = r ≡ None
