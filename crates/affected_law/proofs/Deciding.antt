-- What has a code is decided: what doesn't differ is the same.
use Rattle.std.proofs.Common.{◌≡◌, ◌≢◌, Option, refl, ap}
use Rattle.std.specs.Coded.{Coded, code_by, coded×, coded_ℕ, coded_list, coded_option}
use Rattle.std.proofs.Math.Decide.{ℕ_discrete}
use base.Stored.{Gv, gnil, gnum, gcons}
use Rattle.flow_base.specs.Program.{Bytes}
use Rattle.check_values.specs.contracts.signatures.Deps as deps_type
use Rattle.check_values.specs.contracts.signatures.LocalSig as local_type
use Rattle.check_values.specs.contracts.signatures.Sig as sig_type
use Rattle.check_values.specs.declared.signatures.Deps.{Deps}
use Rattle.check_values.specs.declared.signatures.LocalSig.{LocalSig}
use Rattle.check_values.specs.declared.signatures.Sig.{Sig}
use Rattle.merged_signatures.specs.Chains.{Known}

code_decided : (a b : Gv) → Dec (a ≡ b)
code_decided gnil gnil = yes refl
code_decided gnil (gnum n) = no (λ (e : gnil ≡ gnum n). let f : ⊥ = cc in f)
code_decided gnil (gcons c d) = no (λ (e : gnil ≡ gcons c d). let f : ⊥ = cc in f)
code_decided (gnum m) gnil = no (λ (e : gnum m ≡ gnil). let f : ⊥ = cc in f)
code_decided (gnum m) (gnum n) = by (ℕ_discrete m n)
  where
    by : Dec (m ≡ n) → Dec (gnum m ≡ gnum n)
    by (yes e) = yes (ap gnum e)
    by (no e) = no (λ (f : gnum m ≡ gnum n). e (cc))
code_decided (gnum m) (gcons c d) = no (λ (e : gnum m ≡ gcons c d). let f : ⊥ = cc in f)
code_decided (gcons a b) gnil = no (λ (e : gcons a b ≡ gnil). let f : ⊥ = cc in f)
code_decided (gcons a b) (gnum n) = no (λ (e : gcons a b ≡ gnum n). let f : ⊥ = cc in f)
code_decided (gcons a b) (gcons c d) = by (code_decided a c) (code_decided b d)
  where
    by : Dec (a ≡ c) → Dec (b ≡ d) → Dec (gcons a b ≡ gcons c d)
    by (yes e) (yes f) = yes (cc)
    by (no e) f = no (λ (g : gcons a b ≡ gcons c d). e (cc))
    by (yes e) (no f) = no (λ (g : gcons a b ≡ gcons c d). f (cc))

pub same_by : {A : Type 0} → Coded A → (a b : A) → ¬ (a ≢ b) → a ≡ b
same_by c a b stays = by (code_decided (c.code a) (c.code b))
  where
    by : Dec (c.code a ≡ c.code b) → a ≡ b
    by (yes e) = c.inj a b e
    by (no e) = absurd (stays (λ same. e (ap c.code same)))

pub same_text : (a b : Option Bytes) → ¬ (a ≢ b) → a ≡ b
same_text = same_by (coded_option (coded_list coded_ℕ))

pub same_deps : (a b : Deps) → ¬ (a ≢ b) → a ≡ b
same_deps = same_by deps_type.the_row.coded

pub same_sig : (a b : Option Sig) → ¬ (a ≢ b) → a ≡ b
same_sig = same_by (coded_option sig_type.the_row.coded)

known_code : Coded Known
known_code =
    code_by (LocalSig × Deps) (coded× local_type.the_row.coded deps_type.the_row.coded) (λ k. (k.sig, k.deps))
    (λ p. record { sig = p.0; deps = p.1 }) (λ _. refl)

pub same_known : (a b : Option Known) → ¬ (a ≢ b) → a ≡ b
same_known = same_by (coded_option known_code)
