-- The targets of assignments.
use Rattle.std.specs.Prelude.{ℕ, Option, Some, None}
use Rattle.js_grammar.specs.Code.{Ex, ex, variable, postfixed, Link, link, member, index, call, Links, more_link}
use Rattle.flow_facts.specs.declared.place.Place.{Place}
use Rattle.typing.specs.Names.{Scope, meaning_of}
use Rattle.typing.specs.States.{World, Now, Out, Env, after, change_notes}
use Rattle.typing.specs.Tests.{variable_in, step_place}
use Rattle.typing.specs.Statements.{Goal, goal_want, variable_goal, variable_named, property_goal, element_goal, assigned_env}
use Rattle.typing.specs.Typing.{read, read_links}

-- a target whose parts were read, and what the value is read from
pub record Aim : Type 0 where
  pub goal : Goal
  pub now : Now

-- a property or an element of what was read, by the last link; a call is none
abbrev pub link_aim : World → ℕ → Link → Option Place → Scope → Out → Option Aim
link_aim w f (link at t (member key)) place scope o = Some (record { goal = property_goal w f at t key place o; now = after o })
link_aim w f (link at t (index i)) place scope o =
    let at_index = read w i scope None (after o) in
    Some (record { goal = element_goal w f at i o at_index; now = after at_index })
link_aim w f (link at t (call es comma)) place scope o = None

-- a chain that ends in a link
abbrev pub links_aim : World → ℕ → Ex → Links → Scope → Now → Option Aim
links_aim w f base (more_link ls l) scope now =
    let from = variable_in scope base in
    link_aim w f l (step_place from (more_link ls l)) scope (read_links w f ls from scope (read w base scope None now))
links_aim w f base ls scope now = None

-- the target, if it is one
abbrev pub aim : World → Ex → Scope → Now → Option Aim
aim w (ex f t (variable name)) scope now = Some (record {
  goal = variable_goal w f name (meaning_of scope name);
  now = change_notes (variable_named w f name (meaning_of scope name)) now;
})
aim w (ex f t (postfixed base ls)) scope now = links_aim w f base ls scope now
aim w e scope now = None

-- the value is read and assigned to the target
abbrev pub assigned_to : World → Ex → Option Aim → Env → Env
assigned_to w e None env = env
assigned_to w e (Some a) env = assigned_env w e a.goal (read w e env.scope (goal_want a.goal) a.now) env

-- what the value is read from, if there is a target
abbrev pub aim_now : Option Aim → Now → Now
aim_now None now = now
aim_now (Some a) now = a.now

abbrev pub aim_goal : Option Aim → Option Goal
aim_goal None = None
aim_goal (Some a) = Some a.goal
