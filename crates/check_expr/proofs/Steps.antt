-- Steps that end in a call, whose result is handed on as it is.
use Rattle.std.proofs.Common.{◌≡◌, Option, None, Result, Ok, Err, ◌∙◌}
use Rattle.std.specs.Prelude.{OnOk, IfOk}
use Rattle.typing.specs.States.{Out, Env}
use Rattle.fact_ways.specs.declared.fork.Fork.{Fork}
use Rattle.fact_ways.specs.Ways.{Fits}
use Rattle.check_moves.specs.declared.state.State.{State}
use Rattle.check_moves.specs.declared.state.Read.{Read}
use Rattle.check_moves.specs.View.{around, env, told}
use Rattle.check_moves.specs.Follows.{Follows}
use Rattle.check_moves.proofs.Following.{follows_through}

pub told_on : {E : Type 0} (o : Result Read E) (c : State) (x y : Out) → IfOk o (λ r. told r c ≡ x) → x ≡ y → IfOk o (λ r. told r c ≡ y)
told_on (Ok r) c x y is same = is ∙ same
told_on (Err e) c x y is same = tt

pub around_on : {A E : Type 0} (o : Result A E) (a b c : State) → OnOk o (around c ≡ around b) → around b ≡ around a → OnOk o (around c ≡ around a)
around_on (Ok r) a b c is same = is ∙ same
around_on (Err e) a b c is same = tt

pub env_on : {A E : Type 0} (o : Result A E) (c : State) (x y : Env) → OnOk o (env c ≡ x) → x ≡ y → OnOk o (env c ≡ y)
env_on (Ok r) c x y is same = is ∙ same
env_on (Err e) c x y is same = tt

pub follows_on : {E : Type 0} (o : Result Read E) (r s : Option Fork) (a b c : State) → Follows r a s b → IfOk o (λ x. Follows s b x.fork c) → IfOk o (λ x. Follows r a x.fork c)
follows_on (Ok x) r s a b c first next = follows_through r s x.fork a b c first next
follows_on (Err e) r s a b c first next = tt

pub follows_end : {A E : Type 0} (o : Result A E) (r s : Option Fork) (a b c : State) → Follows r a s b → OnOk o (Follows s b None c) → OnOk o (Follows r a None c)
follows_end (Ok x) r s a b c first next = follows_through r s None a b c first next
follows_end (Err e) r s a b c first next = tt

-- ways that were come to stand
pub fits_of : (r k : Option Fork) (a b : State) → Follows r a k b → Fits k b.facts
fits_of r k a b follows = follows.leads.fits
