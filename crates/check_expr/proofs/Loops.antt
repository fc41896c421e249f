-- What loops have read so far.
use Rattle.std.proofs.Common.{◌≡◌, ℕ, Bool, List, [], ◌∷◌, map, reverse, Option, None}
use Rattle.js_grammar.specs.Code.{Exs, Fields, Links, Operands, Arms, Stmts, Branches}
use Rattle.type_values.specs.declared.types.FlowType.{FlowType}
use Rattle.type_values.specs.declared.types.FlowProp.{FlowProp}
use Rattle.type_values.specs.declared.types.Param.{Param}
use Rattle.flow_facts.specs.declared.place.Place.{Place}
use Rattle.typing.specs.States.{World, Want, Out}
use Rattle.typing.specs.Members.{Arg}
use Rattle.typing.specs.Objects.{Elements, Candidate, Entry}
use Rattle.typing.specs.Typing.{read_elements, read_fields, read_links, read_args, read_operands, read_arms, read_stmts, read_branches}
use Rattle.fact_ways.specs.declared.fork.Fork.{Fork}
use Rattle.scopes.specs.View.{KeepsHeights}
use Rattle.fact_ways.specs.Ways as facts
use Rattle.fact_ways.specs.Ways.{Fits, AreNested, outermost, ways_of, all_joined}
use Rattle.check_moves.specs.declared.state.State.{State}
use Rattle.check_moves.specs.declared.state.Read.{Read}
use Rattle.expression_moves.specs.declared.branches.Chosen.{Chosen}
use Rattle.check_moves.specs.View.{around, scope, now, env, told}
use Rattle.check_moves.specs.Follows.{Follows, Leaves}
use Rattle.expression_moves.specs.Moves.{chosen_view, met}

-- nothing but the facts and the notes is other than before
pub record Goes (from : Option Fork) (a : State) (to : Option Fork) (b : State) : Type 0 where
  pub same : around b ≡ around a
  pub follows : Follows from a to b

pub record ElementsRead (w : World) (es : Exs) (matched : Option Elements) (a : State) (types : List FlowType) (b : State) : Type 0 where
  pub read : record { types = types; now = now b } ≡ read_elements w es (scope a) matched (now a)
  pub goes : Goes None a None b

pub record FieldsRead (w : World) (fs : Fields) (candidate : Option Candidate) (entries : List Entry) (a : State) (props : List FlowProp) (b : State) : Type 0 where
  pub read : record { props = props; now = now b } ≡ read_fields w fs (scope a) candidate entries (now a)
  pub goes : Goes None a None b

pub record ArgumentsRead (w : World) (es : Exs) (params : Option (List Param)) (a : State) (given : List Arg) (b : State) : Type 0 where
  pub read : record { args = given; now = now b } ≡ read_args w es (scope a) params (now a)
  pub goes : Goes None a None b

pub record LinksRead (w : World) (f : ℕ) (ls : Links) (from : Option ℕ) (base : Read) (a : State) (chain : Read) (b : State) : Type 0 where
  pub read : told chain b ≡ read_links w f ls from (scope a) (told base a)
  pub goes : Goes base.fork a chain.fork b

pub record OperandsRead (w : World) (f : ℕ) (os : Operands) (place : Option Place) (left : Read) (a : State) (chain : Read) (b : State) : Type 0 where
  pub read : told chain b ≡ read_operands w f os place (scope a) (told left a)
  pub goes : Goes left.fork a chain.fork b

pub record ArmsRead (w : World) (arms : Arms) (want : Want) (a : State) (all : List Chosen) (b : State) : Type 0 where
  pub read : now b ≡ (read_arms w arms (scope a) want (now a)).now
  pub chosen : map (chosen_view b.facts) (reverse all) ≡ reverse (read_arms w arms (scope a) want (now a)).chosen
  pub same : around b ≡ around a
  pub leaves : Leaves a (map (λ c. c.fork) (reverse all)) None b

pub record BranchesRead (w : World) (bs : Branches) (a : State) (all : List Fork) (b : State) : Type 0 where
  pub read : env b ≡ (read_branches w bs (env a)).env
  pub arms : all_joined (ways_of b.facts (reverse all)) None ≡ (read_branches w bs (env a)).arms
  pub leaves : Leaves a (reverse all) None b

pub record StatementsRead (w : World) (ss : Stmts) (a b : State) : Type 0 where
  pub read : env b ≡ read_stmts w ss (env a)
  pub follows : Follows None a None b

-- what the operands of `&&` (true) or `||` so far give, where some ways left the chain
abbrev pub met_any : Bool → List Fork → State → Out → Out
met_any is_and [] s o = o
met_any is_and (k ∷ ks) s o = met is_and (ways_of s.facts (k ∷ ks)) o

-- Of a chain that began with two ways, ways left, and the last operand has the inner ones.
pub record RunRead (w : World) (f : ℕ) (os : Operands) (is_and : Bool) (left : Read) (a : State) (ways : List Fork) (ty : FlowType) (fork : Option Fork) (b : State) : Type 0 where
  pub read : (place : Option Place) → met_any is_and (reverse ways) b (told (record { ty = ty; fork = fork }) b) ≡ read_operands w f os place (scope a) (told left a)
  pub same : around b ≡ around a
  pub nested : AreNested (reverse ways) fork b.facts
  pub fits : Fits fork b.facts
  pub goes : facts.Goes left.fork a.facts (outermost (reverse ways) fork) b.facts
  pub heights : KeepsHeights a.scope b.scope
