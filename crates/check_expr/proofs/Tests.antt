-- A test and what is read behind it.
use Rattle.std.proofs.Common.{◌≡◌, ℕ, List, [], ◌∷◌, ◌++◌, map, reverse, Option, Some, None, refl, sym, ap, ◌∙◌}
use Rattle.std.proofs.lemmas.List.{reverse-append}
use Rattle.js_grammar.specs.Code.{Ex, Body, Arm as TreeArm, Arms, no_arm, more_arm, Branches, Else}
use Rattle.code_tree.specs.View.{expr_view, arm_view}
use Rattle.code_tree.specs.declared.types.Arm.{Arm, out-Arm}
use Rattle.type_values.specs.declared.types.FlowType.{FlowType}
use Rattle.flow_facts.specs.Known.{Known, joined}
use Rattle.refine_flow.specs.declared.facts.Facts.{Facts}
use Rattle.refine_flow.specs.Standing.{known}
use Rattle.typing.specs.Statements.{forked, merged, loop_env, after_loop}
use Rattle.typing.specs.Changes.{Change}
use Rattle.typing.specs.Forms as forms
use Rattle.typing.specs.Forms.{choices_out}
use Rattle.typing.specs.States.{World, Want, Now, Out, Env, after, on_yes, no_of, now_of, with_now}
use Rattle.typing.specs.Typing.{read, read_body, read_arms, read_branches, read_else}
use Rattle.fact_ways.specs.declared.fork.Fork.{Fork}
use Rattle.fact_ways.specs.Ways.{Fits, AreNested, outermost, way_of, ways_of, all_joined}
use Rattle.fact_ways.proofs.Joins.{all_joined_last}
use Rattle.fact_ways.proofs.Nests.{fits_stands}
use Rattle.check_moves.specs.declared.state.State.{State}
use Rattle.check_moves.specs.declared.state.Read.{Read}
use Rattle.expression_moves.specs.declared.branches.Chosen.{Chosen}
use Rattle.check_moves.specs.View.{around, scope, now, env, told, broken_facts}
use Rattle.check_moves.specs.Follows.{Follows, Leaves}
use Rattle.expression_moves.specs.Moves.{chosen_view, choices_left}
use Rattle.check_moves.proofs.Following.{follows_through, follows_under, way_under, fits_under, ways_left, leaves_on, follows_left}
use Rattle.check_expr.specs.Tests.{Tested}
use Rattle.check_expr.proofs.Choices.{chosen_again}
use Rattle.check_expr.proofs.Views.{arm_is}

pub test_read : (o : Out) (test : Read) (k : Fork) (a b c : State) → told test b ≡ o → around b ≡ around a → Follows None a test.fork b →
    now c ≡ on_yes (told test b) → way_of c.facts k ≡ no_of (told test b) → around c ≡ around b → Follows test.fork b (Some k) c → Tested o a k c
test_read o test k a b c is same follows on way parted parts = record {
  now = on ∙ ap on_yes is;
  way = way ∙ ap no_of is;
  same = parted ∙ same;
  follows = follows_through None test.fork (Some k) a b c follows parts;
}

-- what goes on behind it leaves its way, and then that one goes on
pub turned_now : (o : Out) (k : Fork) (a b c d : State) → Tested o a k b → Follows None b None c → now d ≡ record (now c) { facts = way_of c.facts k } → now d ≡ record { facts = no_of o; notes = (now c).notes }
turned_now o k a b c d test goes is = is ∙ (λ i. record { facts = (way_under k b c test.follows.leads.fits goes ∙ test.way) i; notes = (now c).notes })

pub turned_fits : (o : Out) (k : Fork) (a b c : State) → Tested o a k b → Follows None b None c → Fits (Some k) c.facts
turned_fits o k a b c test goes = fits_under None k a b c test.follows goes

pub turned_follows : (o : Out) (k j : Fork) (a b c d : State) → Tested o a k b → Follows None b None c → Follows (Some k) c (Some j) d → Follows None a (Some j) d
turned_follows o k j a b c d test goes turns = follows_through None (Some k) (Some j) a c d (follows_under None k a b c test.follows goes) turns

pub turned_leaves : (o : Out) (k j : Fork) (a b c d : State) → Tested o a k b → Follows None b None c → Follows (Some k) c (Some j) d → Leaves a (j ∷ []) None d
turned_leaves o k j a b c d test goes turns =
    let all : Follows None a (Some j) d = turned_follows o k j a b c d test goes turns in
    record { nested = (fits_stands j d.facts all.leads.fits, tt); fits = tt; goes = all.leads.goes; heights = all.heights }

-- ---- an arm of a conditional

abbrev pub arm_out : World → Arm → State → Out
arm_out w x a = read w (expr_view (out-Arm x).test) (scope a) None (now a)

-- the branch was read, and both its ways went on
pub arm_now : (w : World) (x : Arm) (want : Want) (k : Fork) (branch : Read) (a b c d e : State) → Tested (arm_out w x a) a k b →
    told branch c ≡ read w (expr_view (out-Arm x).branch) (scope b) want (now b) → Follows None b branch.fork c → now d ≡ after (told branch c) → Follows branch.fork c None d →
    now e ≡ record (now d) { facts = way_of d.facts k } → now e ≡ (read_arms w (more_arm no_arm (arm_view x)) (scope a) want (now a)).now
arm_now w x want k branch a b c d e test is goes met ends turned =
    turned_now (arm_out w x a) k a b d e test (follows_through None branch.fork None b c d goes ends) turned
    ∙ (λ i. record { facts = no_of (arm_out w x a); notes = (met i).notes })
    ∙ (λ i. record { facts = no_of (arm_out w x a); notes = (is i).notes })
    ∙ (λ i. record { facts = no_of (arm_out w x a); notes = (read w (expr_view (out-Arm x).branch) (test.same i).scope want (test.now i)).notes })
    ∙ sym (ap (λ (v : TreeArm). (read_arms w (more_arm no_arm v) (scope a) want (now a)).now) (arm_is x))

pub arm_chosen : (w : World) (x : Arm) (want : Want) (k j : Fork) (branch : Read) (ty : FlowType) (a b c d e : State) → Tested (arm_out w x a) a k b →
    told branch c ≡ read w (expr_view (out-Arm x).branch) (scope b) want (now b) → now d ≡ after (told branch c) → ty ≡ branch.ty → way_of e.facts j ≡ known d.facts →
    chosen_view e.facts (record { first = (out-Arm x).first; ty = ty; fork = j }) ∷ [] ≡ (read_arms w (more_arm no_arm (arm_view x)) (scope a) want (now a)).chosen
unfolding now told
arm_chosen w x want k j branch ty a b c d e test is met own way =
    let out : told branch c ≡ read w (expr_view (out-Arm x).branch) (scope a) want (on_yes (arm_out w x a)) =
    is ∙ (λ i. read w (expr_view (out-Arm x).branch) (test.same i).scope want (test.now i)) in
    (λ i. record { first = (out-Arm x).first; ty = own i; facts = (way ∙ ap (λ (n : Now). n.facts) met) i } ∷ [])
    ∙ (λ i. record { first = (out-Arm x).first; ty = (out i).ty; facts = (after (out i)).facts } ∷ [])
    ∙ sym (ap (λ (v : TreeArm). (read_arms w (more_arm no_arm v) (scope a) want (now a)).chosen) (arm_is x))

-- ---- an arm of an `if`

-- the body was read, and the way where the test is falsy goes on
pub branch_env : (w : World) (e : Ex) (body : Body) (k : Fork) (so_far : Known) (a b c d : State) → Tested (read w e (scope a) None (now a)) a k b →
    env c ≡ read_body w body (env b) → Follows None b None c → now d ≡ record (now c) { facts = way_of c.facts k } → around d ≡ around c →
    env d ≡ (forked (record { env = env a; arms = so_far }) (read w e (scope a) None (now a)) (read_body w body (with_now (on_yes (read w e (scope a) None (now a))) (env a)))).env
branch_env w e body k so_far a b c d test is goes turned same =
    let o : Out = read w e (scope a) None (now a) in
    let start : env b ≡ with_now (on_yes o) (env a) = λ i. record { scope = (test.same i).scope; facts = (test.now i).facts; notes = (test.now i).notes; returned = (test.same i).returned; breaks = (test.same i).breaks } in
    let done : env c ≡ read_body w body (with_now (on_yes o) (env a)) = is ∙ ap (read_body w body) start in
    let turned_is : now d ≡ record { facts = no_of o; notes = (now c).notes } = turned_now o k a b c d test goes turned in
    (λ i. record { scope = (same i).scope; facts = (turned_is i).facts; notes = (turned_is i).notes; returned = (same i).returned; breaks = (same i).breaks })
    ∙ (λ i. record (done i) { facts = no_of o })

pub branch_way : (w : World) (e : Ex) (body : Body) (k j : Fork) (a b c d : State) → Tested (read w e (scope a) None (now a)) a k b →
    env c ≡ read_body w body (env b) → way_of d.facts j ≡ known c.facts → way_of d.facts j ≡ (read_body w body (with_now (on_yes (read w e (scope a) None (now a))) (env a))).facts
unfolding now
branch_way w e body k j a b c d test is way =
    let o : Out = read w e (scope a) None (now a) in
    let start : env b ≡ with_now (on_yes o) (env a) = λ i. record { scope = (test.same i).scope; facts = (test.now i).facts; notes = (test.now i).notes; returned = (test.same i).returned; breaks = (test.same i).breaks } in
    way ∙ ap (λ (e : Env). e.facts) (is ∙ ap (read_body w body) start)

-- the arms meet what follows them
pub if_fits : (ks : List Fork) (a b c : State) → Leaves a ks None b → Follows None b None c → AreNested ks None c.facts
if_fits ks a b c leaves goes = (leaves_on a ks None None b c leaves goes).nested

pub if_env : (w : World) (arms : Branches) (last : Else) (ks : List Fork) (a b c d : State) →
    env b ≡ (read_branches w arms (env a)).env → all_joined (ways_of b.facts ks) None ≡ (read_branches w arms (env a)).arms → Leaves a ks None b →
    env c ≡ read_else w last (env b) → Follows None b None c → now d ≡ record (now c) { facts = all_joined (ways_of c.facts ks) (known c.facts) } → around d ≡ around c →
    env d ≡ merged (read_branches w arms (env a)).arms (read_else w last (read_branches w arms (env a)).env)
unfolding now
if_env w arms last ks a b c d is joins leaves ends goes met same =
    let done : env c ≡ read_else w last (read_branches w arms (env a)).env = ends ∙ ap (read_else w last) is in
    let ways : all_joined (ways_of c.facts ks) (known c.facts) ≡ joined (read_branches w arms (env a)).arms (known c.facts) =
    ap (λ (ways : List Known). all_joined ways (known c.facts)) (ways_left a ks None None b c leaves goes)
    ∙ sym (all_joined_last (ways_of b.facts ks) None (known c.facts))
    ∙ ap (λ (f : Known). joined f (known c.facts)) joins in
    (λ i. record { scope = (same i).scope; facts = (met i).facts; notes = (met i).notes; returned = (same i).returned; breaks = (same i).breaks })
    ∙ (λ i. record (env c) { facts = ways i })
    ∙ ap (merged (read_branches w arms (env a)).arms) done

pub if_follows : (ks : List Fork) (a b c d : State) → Leaves a ks None b → Follows None b None c → Follows (outermost ks None) c None d → Follows None a None d
if_follows ks a b c d leaves goes met = follows_left a ks None None c d (leaves_on a ks None None b c leaves goes) met

-- ---- `while`

pub while_env : (w : World) (e : Ex) (body : Body) (all : List Change) (outer : Option Facts) (k : Fork) (a b c d f : State) →
    env b ≡ loop_env all (env a) → outer ≡ a.breaks → Tested (read w e (scope b) None (now b)) b k c → env d ≡ read_body w body (env c) → Follows None c None d →
    env f ≡ record (env d) { facts = joined (way_of d.facts k) (around d).breaks; breaks = broken_facts outer } →
    env f ≡ after_loop (env a) (read w e (env a).scope None (now_of (loop_env all (env a)))) (read_body w body (with_now (on_yes (read w e (env a).scope None (now_of (loop_env all (env a))))) (loop_env all (env a))))
unfolding around
while_env w e body all outer k a b c d f begins outer_is test is goes leaves =
    let start : Env = loop_env all (env a) in
    let o : Out = read w e (scope b) None (now b) in
    let test_is : o ≡ read w e (env a).scope None (now_of start) = λ i. read w e (begins i).scope None (now_of (begins i)) in
    let inside : env c ≡ with_now (on_yes (read w e (env a).scope None (now_of start))) start =
    (λ i. record { scope = (test.same i).scope; facts = (test.now i).facts; notes = (test.now i).notes; returned = (test.same i).returned; breaks = (test.same i).breaks })
    ∙ (λ i. with_now (on_yes (test_is i)) (begins i)) in
    let done : env d ≡ read_body w body (with_now (on_yes (read w e (env a).scope None (now_of start))) start) = is ∙ ap (read_body w body) inside in
    let falsy : way_of d.facts k ≡ no_of (read w e (env a).scope None (now_of start)) = way_under k c d test.follows.leads.fits goes ∙ test.way ∙ ap no_of test_is in
    leaves
    ∙ (λ i. record (env d) { facts = joined (falsy i) (around d).breaks; breaks = broken_facts (outer_is i) })
    ∙ (λ i. record (done i) { facts = joined (no_of (read w e (env a).scope None (now_of start))) (done i).breaks; breaks = (env a).breaks })

pub while_follows : (o : Out) (k : Fork) (a b c d f : State) → Follows None a None b → Tested o b k c → Follows None c None d → Follows (Some k) d None f → Follows None a None f
while_follows o k a b c d f begins test goes leaves =
    follows_through None (Some k) None a d f (follows_through None None (Some k) a b d begins (follows_under None k b c d test.follows goes)) leaves

-- ---- conditionals

left_behind : (w : World) (t : ℕ) (cs : List forms.Chosen) (c : forms.Chosen) (o : Out) → choices_left w t (cs ++ c ∷ []) o ≡ choices_out w t (c ∷ []) (choices_left w t cs o)
left_behind w t [] c o = refl
left_behind w t (d ∷ cs) c o = left_behind w t cs c (choices_out w t (d ∷ []) o)

-- the last one first
choices_turned : (w : World) (t : ℕ) (cs : List forms.Chosen) (o : Out) → choices_left w t (reverse cs) o ≡ choices_out w t cs o
choices_turned w t [] o = refl
choices_turned w t (c ∷ cs) o =
    ap (λ (l : List forms.Chosen). choices_left w t l o) (reverse-append (c ∷ []) cs) ∙ left_behind w t (reverse cs) c o ∙ ap (λ (p : Out). choices_out w t (c ∷ []) p) (choices_turned w t cs o)

pub conditional_fits : (ks : List Fork) (r : Option Fork) (a b c : State) → Leaves a ks None b → Follows None b r c → AreNested ks r c.facts
conditional_fits ks r a b c leaves goes = (leaves_on a ks None r b c leaves goes).nested

pub conditional_told : (w : World) (t : ℕ) (arms : Arms) (e : Ex) (want : Want) (chosen : List Chosen) (last r : Read) (a b c d : State) →
    now b ≡ (read_arms w arms (scope a) want (now a)).now → map (chosen_view b.facts) (reverse chosen) ≡ reverse (read_arms w arms (scope a) want (now a)).chosen → around b ≡ around a →
    Leaves a (map (λ (c : Chosen). c.fork) (reverse chosen)) None b → told last c ≡ read w e (scope b) want (now b) → Follows None b last.fork c →
    told r d ≡ choices_left w t (map (chosen_view c.facts) (reverse chosen)) (told last c) →
    told r d ≡ choices_out w t (read_arms w arms (scope a) want (now a)).chosen (read w e (scope a) want (read_arms w arms (scope a) want (now a)).now)
conditional_told w t arms e want chosen last r a b c d on are same leaves is goes met =
    let kept : map (chosen_view c.facts) (reverse chosen) ≡ map (chosen_view b.facts) (reverse chosen) =
    chosen_again b.facts c.facts (reverse chosen) (ways_left a (map (λ (c : Chosen). c.fork) (reverse chosen)) None last.fork b c leaves goes) in
    met
    ∙ (λ i. choices_left w t ((kept ∙ are) i) (is i))
    ∙ (λ i. choices_left w t (reverse (read_arms w arms (scope a) want (now a)).chosen) (read w e (same i).scope want (on i)))
    ∙ choices_turned w t (read_arms w arms (scope a) want (now a)).chosen (read w e (scope a) want (read_arms w arms (scope a) want (now a)).now)

pub conditional_follows : (ks : List Fork) (r s : Option Fork) (a b c d : State) → Leaves a ks None b → Follows None b r c → Follows (outermost ks r) c s d → Follows None a s d
conditional_follows ks r s a b c d leaves goes met = follows_left a ks r s c d (leaves_on a ks None r b c leaves goes) met
