-- What ways are, in the words of the definition of typing.
use Rattle.std.proofs.Common.{◌≡◌, Bool, true, false, List, ◌∷◌, Option, Some, None, refl, sym, ap, ◌∙◌, subst}
use Rattle.type_values.specs.declared.types.FlowType.{FlowType}
use Rattle.type_values.specs.declared.types.FlowType as made
use Rattle.flow_facts.specs.Known.{Known, joined}
use Rattle.refine_flow.specs.declared.facts.Facts.{Facts}
use Rattle.refine_flow.specs.Standing.{known}
use Rattle.check_world.specs.View.{notes_view}
use Rattle.typing.specs.States.{Now, Env, no_of as falsy, on_yes, on_no, plainly, change_facts, dead}
use Rattle.typing.specs.Forms.{swapped}
use Rattle.typing.specs.Typing.{truth_out}
use Rattle.fact_ways.specs.declared.fork.Fork.{Fork}
use Rattle.fact_ways.specs.Ways.{Fits, yes_of, no_of, way_of, ways_of, all_joined}
use Rattle.fact_ways.proofs.Joins.{all_joined_last}
use Rattle.check_moves.specs.declared.state.State.{State}
use Rattle.check_moves.specs.declared.state.Read.{Read}
use Rattle.check_moves.specs.View.{now, told, env}
use Rattle.check_moves.specs.Follows.{Follows}
use Rattle.expression_moves.specs.Moves.{goes_on, leaving, met}
use Rattle.check_moves.proofs.Following.{follows_nothing, way_under}
use Rattle.check_moves.proofs.Ways.{read_out, falsy_here}

-- ways that left a chain before, with one more
pub met_more : (ways : List Known) (first last : Known) → joined (all_joined ways first) last ≡ all_joined (first ∷ ways) last
met_more ways first last = all_joined_last ways first last

-- a type, where the facts are the same for truthy and falsy
pub told_plain : (r : Read) (s : State) (ty : FlowType) → r.ty ≡ ty → r.fork ≡ None → told r s ≡ plainly ty (now s)
unfolding told now
told_plain r s ty own none = λ i. record { ty = own i; yes = yes_of (none i) s.facts; no = no_of (none i) s.facts; notes = notes_view s.notes }

pub fits_plain : (r : Read) (f : Facts) → r.fork ≡ None → Fits r.fork f
fits_plain r f none = subst (λ (k : Option Fork). Fits k f) (sym none) tt

pub follows_plain : (r : Read) (s : State) → r.fork ≡ None → Follows None s r.fork s
follows_plain r s none = subst (λ (k : Option Fork). Follows None s k s) (sym none) (follows_nothing s s refl refl)

-- ---- behind an expression

-- the truthy one is taken
pub yes_taken : (r : Read) (k : Fork) (a mid b : State) → now mid ≡ now a → way_of mid.facts k ≡ yes_of r.fork a.facts →
    now b ≡ record (now mid) { facts = way_of mid.facts k } → now b ≡ on_yes (told r a)
unfolding told now
yes_taken r k a mid b same way is = is ∙ (λ i. record { facts = way i; notes = (same i).notes })

-- the facts are those where it is falsy
pub no_here : (r : Read) (a b : State) → now b ≡ now a → now b ≡ on_no (told r a)
unfolding told now
no_here r a b same = same ∙ ap (λ (f : Known). record { facts = f; notes = notes_view a.notes }) (sym (falsy_here r.ty r.fork a.facts (notes_view a.notes)))

pub falsy_way : (r : Read) (a mid : State) (way : Known) → now mid ≡ now a → way ≡ known mid.facts → way ≡ falsy (told r a)
unfolding told now
falsy_way r a mid way same is = is ∙ ap (λ (n : Now). n.facts) same ∙ sym (falsy_here r.ty r.fork a.facts (notes_view a.notes))

pub truthy_way : (r : Read) (a : State) (way : Known) → way ≡ yes_of r.fork a.facts → way ≡ (told r a).yes
unfolding told
truthy_way r a way is = is

-- ---- two ways, each with a change of its own

pub two_ways : (ty : FlowType) (one other_one : Known → Known) (k j : Fork) (a b c d e : State) → now b ≡ now a → way_of b.facts k ≡ known a.facts → Follows None a (Some k) b →
    now c ≡ change_facts one (now b) → Follows None b None c → now d ≡ record (now c) { facts = way_of c.facts k } → way_of d.facts j ≡ known c.facts → Follows (Some k) c (Some j) d →
    now e ≡ change_facts other_one (now d) → Follows None d None e →
    told (record { ty = ty; fork = Some j }) e ≡ record { ty = ty; yes = one (now a).facts; no = Some (other_one (now a).facts); notes = (now a).notes }
unfolding told now
two_ways ty one other_one k j a b c d e stood way parts first goes turned other turns second ends =
    let truthy : way_of e.facts j ≡ one (known a.facts) =
    way_under j d e turns.leads.fits ends ∙ other ∙ ap (λ (n : Now). n.facts) first ∙ ap (λ (n : Now). one n.facts) stood in
    let untruthy : known e.facts ≡ other_one (known a.facts) =
    ap (λ (n : Now). n.facts) second ∙ ap (λ (n : Now). other_one n.facts) turned ∙ ap other_one (way_under k b c parts.leads.fits goes ∙ way) in
    let notes : notes_view e.notes ≡ notes_view a.notes =
    ap (λ (n : Now). n.notes) second ∙ ap (λ (n : Now). n.notes) turned ∙ ap (λ (n : Now). n.notes) first ∙ ap (λ (n : Now). n.notes) stood in
    λ i. record { ty = ty; yes = truthy i; no = Some (untruthy i); notes = notes i }

-- one way that ends at once
pub truthy_alone : (k : Fork) (a b c : State) (v : Bool) → v ≡ true → now b ≡ now a → way_of b.facts k ≡ known a.facts → Follows None a (Some k) b →
    env c ≡ dead (env b) → Follows None b None c → told (record { ty = made.BoolLit v; fork = Some k }) c ≡ truth_out v (now a)
unfolding told now
truthy_alone k a b c v is stood way parts died goes =
    let truthy : way_of c.facts k ≡ known a.facts = way_under k b c parts.leads.fits goes ∙ way in
    let notes : notes_view c.notes ≡ notes_view a.notes = ap (λ (e : Env). e.notes) died ∙ ap (λ (n : Now). n.notes) stood in
    (λ i. record { ty = made.BoolLit (is i); yes = truthy i; no = Some (died i).facts; notes = notes i }) ∙ ap (λ (b : Bool). truth_out b (now a)) (sym is)

pub falsy_alone : (k j : Fork) (a b c d : State) (v : Bool) → v ≡ false → now b ≡ now a → way_of b.facts k ≡ known a.facts → Follows None a (Some k) b →
    env c ≡ dead (env b) → Follows None b None c → now d ≡ record (now c) { facts = way_of c.facts k } → way_of d.facts j ≡ known c.facts →
    told (record { ty = made.BoolLit v; fork = Some j }) d ≡ truth_out v (now a)
unfolding told now
falsy_alone k j a b c d v is stood way parts died goes turned other =
    let untruthy : known d.facts ≡ known a.facts = ap (λ (n : Now). n.facts) turned ∙ way_under k b c parts.leads.fits goes ∙ way in
    let truthy : way_of d.facts j ≡ None = other ∙ ap (λ (e : Env). e.facts) died in
    let notes : notes_view d.notes ≡ notes_view a.notes = ap (λ (n : Now). n.notes) turned ∙ ap (λ (e : Env). e.notes) died ∙ ap (λ (n : Now). n.notes) stood in
    (λ i. record { ty = made.BoolLit (is i); yes = truthy i; no = Some (untruthy i); notes = notes i }) ∙ ap (λ (b : Bool). truth_out b (now a)) (sym is)

-- yes and no change places
pub ways_swapped : (ty : FlowType) (k j : Fork) (a b : State) → now b ≡ record (now a) { facts = way_of a.facts k } → way_of b.facts j ≡ known a.facts →
    told (record { ty = made.Boolean; fork = Some j }) b ≡ swapped (told (record { ty = ty; fork = Some k }) a)
unfolding told now
ways_swapped ty k j a b turned other = λ i. record { ty = made.Boolean; yes = other i; no = Some (turned i).facts; notes = (turned i).notes }

pub none_swapped : (ty : FlowType) (r : Read) (a : State) → r.ty ≡ made.Boolean → r.fork ≡ None → told r a ≡ swapped (told (record { ty = ty; fork = None }) a)
unfolding told now
none_swapped ty r a own none = told_plain r a made.Boolean own none

-- ---- ways that left a chain

pub parts_and : (ty : FlowType) (fork : Option Fork) (k : Fork) (a mid b : State) → now mid ≡ now a → way_of mid.facts k ≡ yes_of fork a.facts → now b ≡ record (now mid) { facts = way_of mid.facts k } →
    now b ≡ goes_on true (told (record { ty = ty; fork = fork }) a)
parts_and ty fork k a mid b same way is = yes_taken (record { ty = ty; fork = fork }) k a mid b same way is

pub parts_or : (ty : FlowType) (fork : Option Fork) (a b : State) → now b ≡ now a → now b ≡ goes_on false (told (record { ty = ty; fork = fork }) a)
parts_or ty fork a b same = no_here (record { ty = ty; fork = fork }) a b same

pub leaves_and : (ty : FlowType) (fork : Option Fork) (a mid : State) (way : Known) → now mid ≡ now a → way ≡ known mid.facts → way ≡ leaving true (told (record { ty = ty; fork = fork }) a)
leaves_and ty fork a mid way same is = falsy_way (record { ty = ty; fork = fork }) a mid way same is

pub leaves_or : (ty : FlowType) (fork : Option Fork) (a : State) (way : Known) → way ≡ yes_of fork a.facts → way ≡ leaving false (told (record { ty = ty; fork = fork }) a)
leaves_or ty fork a way is = truthy_way (record { ty = ty; fork = fork }) a way is

-- all that left meet the last operand
pub met_and : (ty : FlowType) (last : Option Fork) (left : List Fork) (k j : Fork) (a b c : State) → now b ≡ now a → way_of b.facts k ≡ yes_of last a.facts → ways_of b.facts left ≡ ways_of a.facts left →
    now c ≡ record (now b) { facts = all_joined (ways_of b.facts left) (known b.facts) } → way_of c.facts j ≡ way_of b.facts k →
    told (record { ty = ty; fork = Some j }) c ≡ met true (ways_of a.facts left) (told (record { ty = ty; fork = last }) a)
unfolding told now
met_and ty last left k j a b c split way same meets arm =
    let notes : notes_view c.notes ≡ notes_view a.notes = ap (λ (n : Now). n.notes) meets ∙ ap (λ (n : Now). n.notes) split in
    let untruthy : known c.facts ≡ all_joined (ways_of a.facts left) (falsy (read_out ty last a.facts (notes_view a.notes))) =
    ap (λ (n : Now). n.facts) meets ∙ (λ i. all_joined (same i) (split i).facts) ∙ ap (all_joined (ways_of a.facts left)) (sym (falsy_here ty last a.facts (notes_view a.notes))) in
    λ i. record { ty = ty; yes = (arm ∙ way) i; no = Some (untruthy i); notes = notes i }

pub met_or : (ty : FlowType) (last : Option Fork) (left : List Fork) (k l m j : Fork) (a b c d e : State) → now b ≡ now a → way_of b.facts k ≡ yes_of last a.facts →
    now c ≡ record (now b) { facts = way_of b.facts k } → way_of c.facts l ≡ known b.facts → ways_of c.facts left ≡ ways_of a.facts left →
    now d ≡ record (now c) { facts = all_joined (ways_of c.facts left) (known c.facts) } → way_of d.facts m ≡ way_of c.facts l →
    now e ≡ record (now d) { facts = way_of d.facts m } → way_of e.facts j ≡ known d.facts →
    told (record { ty = ty; fork = Some j }) e ≡ met false (ways_of a.facts left) (told (record { ty = ty; fork = last }) a)
unfolding told now
met_or ty last left k l m j a b c d e split way turned other same meets arm back again =
    let notes : notes_view e.notes ≡ notes_view a.notes =
    ap (λ (n : Now). n.notes) back ∙ ap (λ (n : Now). n.notes) meets ∙ ap (λ (n : Now). n.notes) turned ∙ ap (λ (n : Now). n.notes) split in
    let truthy : way_of e.facts j ≡ all_joined (ways_of a.facts left) (yes_of last a.facts) =
    again ∙ ap (λ (n : Now). n.facts) meets ∙ (λ i. all_joined (same i) ((ap (λ (n : Now). n.facts) turned ∙ way) i)) in
    let untruthy : known e.facts ≡ falsy (read_out ty last a.facts (notes_view a.notes)) =
    ap (λ (n : Now). n.facts) back ∙ arm ∙ other ∙ ap (λ (n : Now). n.facts) split ∙ sym (falsy_here ty last a.facts (notes_view a.notes)) in
    λ i. record { ty = ty; yes = truthy i; no = Some (untruthy i); notes = notes i }
