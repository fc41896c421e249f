-- What has a code is decided; so has what is known of a module by itself.
use Rattle.std.proofs.Common.{◌≡◌, refl, ap}
use Rattle.std.specs.Coded.{Coded, code_by, coded×}
use Rattle.std.proofs.Math.Decide.{ℕ_discrete}
use base.Stored.{Gv, gnil, gnum, gcons}
use Rattle.check_values.specs.contracts.signatures.Deps as deps_type
use Rattle.check_values.specs.contracts.signatures.LocalSig as local_type
use Rattle.check_values.specs.declared.signatures.Deps.{Deps}
use Rattle.check_values.specs.declared.signatures.LocalSig.{LocalSig}
use Rattle.merged_signatures.specs.Chains.{Known}

pub code_decided : (a b : Gv) → Dec (a ≡ b)
code_decided gnil gnil = yes refl
code_decided gnil (gnum n) = no (λ (e : gnil ≡ gnum n). let f : ⊥ = cc in f)
code_decided gnil (gcons c d) = no (λ (e : gnil ≡ gcons c d). let f : ⊥ = cc in f)
code_decided (gnum m) gnil = no (λ (e : gnum m ≡ gnil). let f : ⊥ = cc in f)
code_decided (gnum m) (gnum n) = by (ℕ_discrete m n)
  where
    by : Dec (m ≡ n) → Dec (gnum m ≡ gnum n)
    by (yes e) = yes (ap gnum e)
    by (no e) = no (λ (f : gnum m ≡ gnum n). e (cc))
code_decided (gnum m) (gcons c d) = no (λ (e : gnum m ≡ gcons c d). let f : ⊥ = cc in f)
code_decided (gcons a b) gnil = no (λ (e : gcons a b ≡ gnil). let f : ⊥ = cc in f)
code_decided (gcons a b) (gnum n) = no (λ (e : gcons a b ≡ gnum n). let f : ⊥ = cc in f)
code_decided (gcons a b) (gcons c d) = by (code_decided a c) (code_decided b d)
  where
    by : Dec (a ≡ c) → Dec (b ≡ d) → Dec (gcons a b ≡ gcons c d)
    by (yes e) (yes f) = yes (cc)
    by (no e) f = no (λ (g : gcons a b ≡ gcons c d). e (cc))
    by (yes e) (no f) = no (λ (g : gcons a b ≡ gcons c d). f (cc))

pub known_code : Coded Known
known_code =
    code_by (LocalSig × Deps) (coded× local_type.the_row.coded deps_type.the_row.coded) (λ k. (k.sig, k.deps))
    (λ p. record { sig = p.0; deps = p.1 }) (λ _. refl)
