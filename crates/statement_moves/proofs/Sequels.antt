-- What statements do to what is passed on between them.
use Rattle.std.proofs.Common.{◌≡◌, ◌↔◌, ℕ, suc, Bool, true, false, IsTrue, List, [], ◌∷◌, Option, Some, None, cond, refl, sym, ap, ◌∙◌}
use Rattle.check_values.specs.Rows.{Bytes}
use Rattle.check_values.specs.declared.codes.Code.TheVariants.{UnreachableCode}
use Rattle.type_values.specs.declared.types.FlowType.{FlowType}
use Rattle.flow_facts.specs.Known.{Known, variable_place, live, assigned, joined, entered_loop}
use Rattle.flow_facts.specs.declared.place.Killed.{Killed}
use Rattle.typing.specs.Changes.{Change}
use Rattle.js_grammar.specs.Code.{Binder, Ex}
use Rattle.typing.specs.Names.{Scope, declares_type, number_at, is_const}
use Rattle.typing.specs.States.{World, Want, Notes, Now, Out, Env, after, add_fault, add_faults, fault_at, reach, stop, stop_if_dead, dead, returns, with_now, asked_want, change_facts}
use Rattle.typing.specs.Statements.{Goal, binder_type, declared_env, declared_facts, is_shared, returned_bare, returned_value, assigned_env, broken, killed_by, loop_env, target_set, asked_each, first_of, end_of}
use Rattle.part_steps.specs.Goals.{asked_every}
use Rattle.type_values.specs.declared.types.FlowType as made
use Rattle.refine_flow.specs.Standing.{known}
use Rattle.refine_flow.specs.declared.facts.Facts.{Facts}
use Rattle.check_world.specs.View.{notes_view}
use Rattle.scopes.specs.View.{scope_view}
use Rattle.check_moves.specs.declared.state.Read.{Read}
use Rattle.check_moves.specs.declared.state.State.{State}
use Rattle.check_moves.specs.View.{Around, around, now, env, told, broken_facts}

-- what is passed on is what stands around and what an expression is read from
pub env_by : (a b : State) → around b ≡ around a → now b ≡ now a → env b ≡ env a
env_by a b same is =
    λ i. record { scope = (same i).scope; facts = (is i).facts; notes = (is i).notes; returned = (same i).returned; breaks = (same i).breaks }

-- ---- what cannot be reached

pub stopped_already : (w : World) (f t : ℕ) (e : Env) → e.notes.stopped ≡ true → e ≡ reach w f t e
stopped_already w f t e is = go e.notes.stopped is (stop_if_dead w f t e.facts e)
  where
    go : (b : Bool) → b ≡ true → (x : Env) → e ≡ cond b e x
    go true is x = refl
    go false is x = absurd (cc)

-- where facts are live, and where they are dead
pub reach_live : (w : World) (f t : ℕ) (e : Env) (b : Bool) → IsTrue b ↔ (e.facts ≡ None) → b ≡ false → e ≡ reach w f t e
reach_live w f t e b iff off = go e.notes.stopped e.facts (λ (none : e.facts ≡ None). cc (iff.1 none, off))
  where
    go : (s : Bool) (facts : Known) → (facts ≡ None → ⊥) → e ≡ cond s e (stop_if_dead w f t facts e)
    go true facts live = refl
    go false None live = absurd (live refl)
    go false (Some m) live = refl

pub reach_dead : (w : World) (f t : ℕ) (details : Bytes) (a b c : State) (s d : Bool) → s ≡ (now a).notes.stopped → s ≡ false → IsTrue d ↔ (known a.facts ≡ None) → d ≡ true → details ≡ [] → b.facts ≡ a.facts → around c ≡ around a →
    c.facts ≡ b.facts → notes_view b.notes ≡ add_fault (fault_at w f t UnreachableCode details) (notes_view a.notes) → notes_view c.notes ≡ record (notes_view b.notes) { stopped = true } → env c ≡ reach w f t (env a)
unfolding now
reach_dead w f t details a b c s d is off iff on no_details kept same again faults stops =
    let stopped : env c ≡ stop w f t (env a) = λ i. record {
      scope = (same i).scope;
      facts = known ((again ∙ kept) i);
      notes = (stops ∙ (λ j. record ((faults ∙ (λ k. add_fault (fault_at w f t UnreachableCode (no_details k)) (notes_view a.notes))) j) { stopped = true })) i;
      returned = (same i).returned;
      breaks = (same i).breaks;
    } in
    stopped ∙ go (notes_view a.notes).stopped (known a.facts) (sym is ∙ off) (iff.0 on)
  where
    go : (s : Bool) (facts : Known) → s ≡ false → facts ≡ None → stop w f t (env a) ≡ cond s (env a) (stop_if_dead w f t facts (env a))
    go true facts off none = absurd (cc)
    go false None off none = refl
    go false (Some m) off none = absurd (cc)

-- ---- `return`

pub bare_returned : (w : World) (f t : ℕ) (want : Want) (a b c d : State) → want ≡ (env a).scope.result → around b ≡ around a → b.facts ≡ a.facts →
    notes_view b.notes ≡ asked_want w f t want made.Void (notes_view a.notes) → env c ≡ returns made.Void (env b) → env d ≡ dead (env c) → env d ≡ returned_bare w f t (env a)
unfolding now
bare_returned w f t want a b c d wanted same kept asks gives dies =
    dies ∙ ap dead (gives ∙ (λ i. returns made.Void (record {
      scope = (same i).scope;
      facts = known (kept i);
      notes = (asks ∙ ap (λ (own : Want). asked_want w f t own made.Void (notes_view a.notes)) wanted) i;
      returned = (same i).returned;
      breaks = (same i).breaks;
    })))

-- what stands between statements, once an expression was read in the midst of it
pub env_behind : (v : Out) (before : Env) (a b : State) → before.scope ≡ (around a).scope → before.returned ≡ (around a).returned → before.breaks ≡ (around a).breaks → around b ≡ around a →
    now b ≡ after v → env b ≡ with_now (after v) before
env_behind v before a b scope returned breaks same behind = λ i. record {
  scope = (ap (λ (s : Around). s.scope) same ∙ sym scope) i;
  facts = (behind i).facts;
  notes = (behind i).notes;
  returned = (ap (λ (s : Around). s.returned) same ∙ sym returned) i;
  breaks = (ap (λ (s : Around). s.breaks) same ∙ sym breaks) i;
}

pub value_returned : (v : Read) (u : FlowType) (before : Env) (a b c d : State) → before.scope ≡ (around a).scope → before.returned ≡ (around a).returned → before.breaks ≡ (around a).breaks → around b ≡ around a →
    now b ≡ after (told v a) → u ≡ v.ty → env c ≡ returns u (env b) → env d ≡ dead (env c) → env d ≡ returned_value (told v a) before
unfolding told
value_returned v u before a b c d scope returned breaks same behind own gives dies =
    dies ∙ ap dead (gives ∙ (λ i. returns (own i) (env_behind (told v a) before a b scope returned breaks same behind i)))

-- ---- declarations

pub not_assigned : (w : World) (scope : Scope) (number : ℕ) (declared t : FlowType) (facts : Known) (shared : Bool) → shared ≡ is_shared scope number → shared ≡ true → facts ≡ declared_facts w scope number (Some declared) t facts
not_assigned w scope number declared t facts shared is on = go (is_shared scope number) (sym is ∙ on) (live (assigned w.members w.below (variable_place number) declared t) facts)
  where
    go : (b : Bool) → b ≡ true → (x : Known) → facts ≡ cond b facts x
    go true is x = refl
    go false is x = absurd (cc)

pub is_assigned : (w : World) (scope : Scope) (number : ℕ) (declared t : FlowType) (facts next : Known) (shared : Bool) → shared ≡ is_shared scope number → shared ≡ false →
    next ≡ live (assigned w.members w.below (variable_place number) declared t) facts → next ≡ declared_facts w scope number (Some declared) t facts
is_assigned w scope number declared t facts next shared is off same = go (is_shared scope number) (sym is ∙ off)
  where
    go : (b : Bool) → b ≡ false → next ≡ cond b facts (live (assigned w.members w.below (variable_place number) declared t) facts)
    go true is = absurd (cc)
    go false is = same

pub plainly_declared : (w : World) (f number : ℕ) (binder : Binder) (v : Read) (u ty : FlowType) (before : Env) (a b c : State) → before.scope ≡ (around a).scope → before.returned ≡ (around a).returned → before.breaks ≡ (around a).breaks → around b ≡ around a →
    now b ≡ after (told v a) → u ≡ v.ty → number ≡ number_at (is_const binder) (suc f) → ty ≡ binder_type binder u →
    env c ≡ record (env b) { scope = declares_type number ty (env b).scope } → env c ≡ declared_env w f binder None (told v a) before
unfolding told
plainly_declared w f number binder v u ty before a b c scope returned breaks same behind own at is declares =
    declares ∙ (λ i. record (env_behind (told v a) before a b scope returned breaks same behind i) {
      scope = declares_type (at i) ((is ∙ ap (binder_type binder) own) i) (env_behind (told v a) before a b scope returned breaks same behind i).scope;
    })

pub annotated_declared : (w : World) (f number : ℕ) (binder : Binder) (declared : FlowType) (v : Read) (u : FlowType) (before : Env) (a b c d : State) → before.scope ≡ (around a).scope → before.returned ≡ (around a).returned → before.breaks ≡ (around a).breaks → around b ≡ around a →
    now b ≡ after (told v a) → u ≡ v.ty → number ≡ number_at (is_const binder) (suc f) →
    now c ≡ change_facts (declared_facts w (around b).scope number (Some declared) u) (now b) → around c ≡ around b →
    env d ≡ record (env c) { scope = declares_type number declared (env c).scope } → env d ≡ declared_env w f binder (Some declared) (told v a) before
unfolding told
annotated_declared w f number binder declared v u before a b c d scope returned breaks same behind own at assigns stays declares =
    let here : env b ≡ with_now (after (told v a)) before = env_behind (told v a) before a b scope returned breaks same behind in
    let next : env c ≡ record (env b) { facts = declared_facts w (env b).scope number (Some declared) u (env b).facts } =
    λ i. record { scope = (stays i).scope; facts = (assigns i).facts; notes = (assigns i).notes; returned = (stays i).returned; breaks = (stays i).breaks } in
    declares ∙ (λ i. record (next i) { scope = declares_type number declared (next i).scope })
    ∙ (λ i. record (here i) { scope = declares_type (at i) declared (here i).scope; facts = declared_facts w (here i).scope (at i) (Some declared) (own i) (here i).facts })

-- ---- assignments

asked_alike : (w : World) (e : Ex) (wants : List FlowType) (ty : FlowType) (notes : Notes) → asked_every w (first_of e) (end_of e) wants ty notes ≡ asked_each w e wants ty notes
asked_alike w e [] ty notes = refl
asked_alike w e (want ∷ []) ty notes = refl
asked_alike w e (want ∷ other ∷ wants) ty notes = refl

pub value_assigned : (w : World) (e : Ex) (f t : ℕ) (g : Goal) (v : Read) (u : FlowType) (before : Env) (a b c d x : State) → first_of e ≡ f → end_of e ≡ t → before.scope ≡ (around a).scope → before.returned ≡ (around a).returned → before.breaks ≡ (around a).breaks →
    around b ≡ around a → now b ≡ after (told v a) → u ≡ v.ty → c.facts ≡ b.facts → around d ≡ around b → d.facts ≡ c.facts → notes_view c.notes ≡ asked_every w f t g.wants u (notes_view b.notes) →
    notes_view d.notes ≡ add_faults g.faults (notes_view c.notes) → now x ≡ change_facts (target_set w g.target u) (now d) → around x ≡ around d → env x ≡ assigned_env w e g (told v a) before
unfolding told now
value_assigned w e f t g v u before a b c d x first last scope returned breaks same behind own kept stays again asks faults sets around_x =
    let notes : notes_view d.notes ≡ add_faults g.faults (asked_each w e g.wants v.ty (told v a).notes) =
    faults ∙ ap (add_faults g.faults) (asks ∙ (λ i. asked_every w (sym first i) (sym last i) g.wants (own i) (behind i).notes) ∙ asked_alike w e g.wants v.ty (told v a).notes) in
    let facts : known d.facts ≡ (after (told v a)).facts = ap known (again ∙ kept) ∙ ap (λ (n : Now). n.facts) behind in
    let here : around x ≡ around a = around_x ∙ stays ∙ same in
    λ i. record {
      scope = (ap (λ (s : Around). s.scope) here ∙ sym scope) i;
      facts = (ap (λ (n : Now). n.facts) sets ∙ (λ j. target_set w g.target (own j) (facts j))) i;
      notes = (ap (λ (n : Now). n.notes) sets ∙ notes) i;
      returned = (ap (λ (s : Around). s.returned) here ∙ sym returned) i;
      breaks = (ap (λ (s : Around). s.breaks) here ∙ sym breaks) i;
    }

-- ---- loops

-- a `break`
pub broken_off : (a b c : State) → env b ≡ record (env a) { breaks = joined (env a).breaks (env a).facts } → env c ≡ dead (env b) → env c ≡ broken (env a)
broken_off a b c joins dies = dies ∙ ap dead joins

nothing_joined : (f : Known) → joined f None ≡ f
nothing_joined None = refl
nothing_joined (Some m) = refl

-- no facts at a `break`
pub none_joined : (breaks : Option Facts) (a : State) → breaks ≡ None → now a ≡ record (now a) { facts = joined (known a.facts) (broken_facts breaks) }
unfolding now
none_joined breaks a none = λ i. record { facts = (sym (nothing_joined (known a.facts)) ∙ (λ j. joined (known a.facts) (broken_facts (sym none j)))) i; notes = notes_view a.notes }

-- before the test of a loop
pub loop_entered : (killed : Killed) (changes : List Change) (a b : State) → killed ≡ killed_by (around a).scope changes → known b.facts ≡ live (entered_loop killed) (known a.facts) → b.scope ≡ a.scope → b.notes ≡ a.notes →
    b.returned ≡ a.returned → b.breaks ≡ None → env b ≡ loop_env changes (env a)
unfolding around now
loop_entered killed changes a b is enters names notes returned breaks = λ i. record {
  scope = scope_view (names i);
  facts = (enters ∙ (λ j. live (entered_loop (is j)) (known a.facts))) i;
  notes = notes_view (notes i);
  returned = returned i;
  breaks = broken_facts (breaks i);
}

-- after a loop
pub loop_left : (way : Known) (outer breaks : Option Facts) (a b c d : State) → now b ≡ record (now a) { facts = way } → around b ≡ around a → breaks ≡ b.breaks → c.facts ≡ b.facts → c.notes ≡ b.notes → c.scope ≡ b.scope →
    c.returned ≡ b.returned → c.breaks ≡ outer → now d ≡ record (now c) { facts = joined (known c.facts) (broken_facts breaks) } → around d ≡ around c →
    env d ≡ record (env a) { facts = joined way (around a).breaks; breaks = broken_facts outer }
unfolding around now
loop_left way outer breaks a b c d takes same own facts notes names returned out joins stays = λ i. record {
  scope = (ap (λ (s : Around). s.scope) stays ∙ ap scope_view names ∙ ap (λ (s : Around). s.scope) same) i;
  facts = (ap (λ (n : Now). n.facts) joins ∙ (λ j. joined ((ap known facts ∙ ap (λ (n : Now). n.facts) takes) j) ((ap broken_facts own ∙ ap (λ (s : Around). s.breaks) same) j))) i;
  notes = (ap (λ (n : Now). n.notes) joins ∙ ap notes_view notes ∙ ap (λ (n : Now). n.notes) takes) i;
  returned = (ap (λ (s : Around). s.returned) stays ∙ returned ∙ ap (λ (s : Around). s.returned) same) i;
  breaks = (ap (λ (s : Around). s.breaks) stays ∙ ap broken_facts out) i;
}
