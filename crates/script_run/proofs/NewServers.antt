-- A server without a module, whose lanes have answered nothing.
use Rattle.std.proofs.Common.{◌≡◌, ℕ, zero, suc, ◌+◌, ◌*◌, ◌^◌, ◌<◌, ◌≤◌, List, [], ◌∷◌, map, replicate, length, slice_get, Some, None, refl, sym, ap, ◌∙◌, subst, arith}
use Rattle.std.proofs.lemmas.List.{length-replicate}
use Rattle.std.proofs.lemmas.Option.{same_Some}
use Rattle.heap_core.specs.Meaning.{Meaning, AllFit, opening}
use Rattle.check_values.specs.declared.root.Root.{Root}
use Rattle.payloads.specs.State.{fits, payload_at}
use Rattle.payloads.specs.declared.payload.Payload.{Payload}
use Rattle.payloads.specs.declared.payload.Payload.TheVariants as payload
use Rattle.beside.specs.Lanes.{AreNew}
use Rattle.beside.specs.Writers.{IsWriterOf, plan_in, meaning_in}
use Rattle.beside.specs.Uses.{new_lane}
use Rattle.beside.specs.Server.{use_of, uses_of}
use Rattle.beside.specs.declared.serving.Server.{Server}
use Rattle.script_run.specs.Session.{IsEmptyHeap, IsNewServer}

abbrev no_modules : Root
no_modules = record { modules = [] }

abbrev nothing_in : ℕ → List Payload
nothing_in k = replicate k payload.Absent

absent_there : (k e : ℕ) (x : Payload) → slice_get (nothing_in k) e ≡ Some x → x ≡ payload.Absent
absent_there zero e x at = absurd (let z : None ≡ Some x = at in cc)
absent_there (suc k) zero x at = sym (same_Some payload.Absent x at)
absent_there (suc k) (suc e) x at = absent_there k e x at

stands_empty : (k e : ℕ) (x : Payload) → slice_get (payload.Root no_modules ∷ nothing_in k) e ≡ Some x → x ≡ payload_at no_modules [] e
stands_empty k zero x at = sym (same_Some (payload.Root no_modules) x at)
stands_empty k (suc e) x at = absent_there k e x at

-- a heap whose root names no module fits
pub empty_fits : (k : ℕ) (root absent : Payload) → root ≡ payload.Root no_modules → absent ≡ payload.Absent → AllFit fits (root ∷ replicate k absent)
empty_fits k root absent is none =
    subst (λ (r : Payload). AllFit fits (r ∷ replicate k absent)) (sym is) (subst (λ (a : Payload). AllFit fits (payload.Root no_modules ∷ replicate k a)) (sym none) fitting)
  where
    fitting : AllFit fits (payload.Root no_modules ∷ nothing_in k)
    fitting root first e x at =
        subst (λ (r : Payload). fits (length (payload.Root no_modules ∷ nothing_in k)) r e x) (same_Some (payload.Root no_modules) root first)
        (record { rising = tt; rows = tt; room = tt }, ∣ ([], tt, stands_empty k e x at) ∣₁)

-- a heap that was just opened
empty_heap_is : (m : Meaning Payload) (modules : ℕ) (root absent : Payload) → m ≡ opening (root ∷ replicate (4 * modules) absent) → root ≡ payload.Root no_modules → modules ≤ 4096 → IsEmptyHeap m modules
empty_heap_is m modules root absent is is_root few = record {
  commits = ap (λ (k : Meaning Payload). slice_get k.committed 0) is ∙ ap Some is_root;
  version = ap (λ (k : Meaning Payload). k.version) is;
  closed = ap (λ (k : Meaning Payload). k.is_open) is;
  room = record { entities = (let long = ap (λ (k : Meaning Payload). length k.committed) is in omega (arith, long, length-replicate (4 * modules) absent)); numbered = omega (arith, few) };
}

-- ---- lanes that have answered nothing

all_alike : {A B : Type 0} (f : A → B) (b : B) (xs : List A) → ((k : ℕ) (x : A) → slice_get xs k ≡ Some x → f x ≡ b) → map f xs ≡ replicate (length xs) b
all_alike f b [] each = refl
all_alike {A} {B} f b (x ∷ xs) each = (λ i. each 0 x refl i ∷ all_alike f b xs (λ k y at. each (suc k) y at) i)

new_uses : (server : Server) (entities : ℕ) → AreNew server.heap entities server.lanes → uses_of server.lanes ≡ replicate (length server.lanes) new_lane
new_uses server entities new = all_alike use_of new_lane server.lanes (λ k l at. let visit = (new k l at).1 in (λ i. record { pins = (visit i).pins; last = (visit i).seen }))

-- a server that was just opened
pub new_server : (server : Server) (modules lanes : ℕ) (root absent : Payload) → meaning_in server.writer ≡ opening (root ∷ replicate (4 * modules) absent) → root ≡ payload.Root no_modules → modules ≤ 4096
    → IsWriterOf server.heap server.writer → (length server.lanes ≡ lanes) × ((plan_in server.writer).made ≡ lanes) × AreNew server.heap (1 + 4 * modules) server.lanes → 1 ≤ lanes → lanes ≤ 16 → IsNewServer server modules lanes
new_server server modules lanes root absent is is_root few writer (many, made, new) some most = record {
  running = record {
    writer = writer;
    lanes = λ k l at. ((new k l at).0, ap (λ v. v.number) (new k l at).1);
    made = made ∙ sym many;
    some = omega (arith, many, some);
    few = omega (arith, many, most);
  };
  empty = empty_heap_is (meaning_in server.writer) modules root absent is is_root few;
  many = many;
  uses = new_uses server (1 + 4 * modules) new ∙ ap (λ n. replicate n new_lane) many;
}
