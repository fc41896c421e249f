-- A character of a string is read as it is written.
use Rattle.std.proofs.Common.{◌≡◌, ◌≢◌, ℕ, ◌+◌, ◌<◌, ◌≤◌, Bool, true, false, cond, not, ◌&&◌, ◌||◌, eqb, List, [], ◌∷◌, ◌++◌, Option, Some, None, length, take, drop, refl, sym, ap, ◌∙◌, subst, inl, inr, append_assoc, length-append, length-drop, arith}
use Rattle.std.specs.Option.{IfSome}
use Rattle.std.specs.List.{list_all, prefix_len}
use Rattle.std.specs.Char.{is_ascii_digit}
use lib.Utf8.{scalar}
use Rattle.std.proofs.lemmas.Bool.{and_parts, or_parts, cases_Bool, eqb-true, eqb-false, eq-eqb, ne_eqb, not-true, true≢false}
use Rattle.std.proofs.lemmas.List.{take-append-drop, take_at, drop_at, length-take-le}
use Rattle.std.proofs.lemmas.List.Sums.{prefix_len-le-length}
use Rattle.lex_pieces.specs.Marks.{with_len}
use Rattle.lex_pieces.specs.Strings.{Part, AreHexOf, hex_value, named_escape, escapes_itself, starts_with_digit, IsPart, plain, named, null, two, four, braced, itself}
use Rattle.lex_pieces.specs.Escapes.{begins_with, is_hex, character, hex_character, fixed_at, braced_at, unicode_at, simple_escape, escape_at, part_at}
use Rattle.lex_pieces.proofs.Runs.{run}

-- EXACT
hex_exact : (ds : List ℕ) (v : ℕ) → AreHexOf ds v → hex_character ds ≡ Some v
unfolding hex_character
hex_exact ds v h = rw (h.0, h.1, h.2) refl

fixed_exact : (n : ℕ) (ds rest : List ℕ) (v : ℕ) → length ds ≡ n → AreHexOf ds v → fixed_at n (ds ++ rest) ≡ Some v
unfolding fixed_at
fixed_exact n ds rest v l h = rw (take_at ds rest n l, eq-eqb (length ds) n l) (hex_exact ds v h)

braced_exact : (ds rest : List ℕ) (v : ℕ) → ds ≢ [] → AreHexOf ds v → braced_at (ds ++ (125 ∷ rest)) ≡ Some (v, length ds + 4)
unfolding braced_at
braced_exact [] rest v some h = absurd (some refl)
braced_exact (d ∷ ds) rest v some h =
    rw (run is_hex (d ∷ ds) (125 ∷ rest) h.0 refl, take_at (d ∷ ds) (125 ∷ rest) (length (d ∷ ds)) refl, drop_at (d ∷ ds) (125 ∷ rest) (length (d ∷ ds)) refl, ne_eqb (length (d ∷ ds)) 0 (λ e. omega arith))
    (ap (with_len (length (d ∷ ds) + 4)) (hex_exact (d ∷ ds) v h))

-- what hexadecimal digits begin with is no brace
no_brace : (ds rest : List ℕ) → list_all is_hex ds ≡ true → ds ≢ [] → begins_with 123 (ds ++ rest) ≡ false
no_brace [] rest all some = absurd (some refl)
no_brace (d ∷ ds) rest all some =
    ne_eqb d 123 (λ e. true≢false (sym (subst (λ (k : ℕ). is_hex k ≡ true) e (and_parts (is_hex d) (list_all is_hex ds) all).0)))

-- one step along the tests
pick : (b : Bool) (p q : ℕ) (rest : Option ℕ) (P : Type 0) → cond b (Some p) rest ≡ Some q → (b ≡ true → p ≡ q → P) → (rest ≡ Some q → P) → P
pick true p q rest P h here later = here refl (cc)
pick false p q rest P h here later = later h

named_at : (c k u v : ℕ) (rest : List ℕ) → escape_at (k ∷ rest) ≡ Some (u, 2) → eqb c k ≡ true → u ≡ v → escape_at (c ∷ rest) ≡ Some (v, 2)
named_at c k u v rest h t same =
    subst (λ (x : ℕ). escape_at (x ∷ rest) ≡ Some (v, 2)) (sym (eqb-true c k t)) (subst (λ (y : ℕ). escape_at (k ∷ rest) ≡ Some (y, 2)) same h)

named_exact : (c v : ℕ) (rest : List ℕ) → named_escape c ≡ Some v → escape_at (c ∷ rest) ≡ Some (v, 2)
unfolding escape_at simple_escape
named_exact c v rest h0 =
    pick (eqb c 110) 10 v _ (escape_at (c ∷ rest) ≡ Some (v, 2)) h0 (named_at c 110 10 v rest refl) (λ h1.
    pick (eqb c 116) 9 v _ (escape_at (c ∷ rest) ≡ Some (v, 2)) h1 (named_at c 116 9 v rest refl) (λ h2.
    pick (eqb c 114) 13 v _ (escape_at (c ∷ rest) ≡ Some (v, 2)) h2 (named_at c 114 13 v rest refl) (λ h3.
    pick (eqb c 98) 8 v _ (escape_at (c ∷ rest) ≡ Some (v, 2)) h3 (named_at c 98 8 v rest refl) (λ h4.
    pick (eqb c 102) 12 v _ (escape_at (c ∷ rest) ≡ Some (v, 2)) h4 (named_at c 102 12 v rest refl) (λ h5.
    pick (eqb c 118) 11 v _ (escape_at (c ∷ rest) ≡ Some (v, 2)) h5 (named_at c 118 11 v rest refl) (λ h6.
    cc))))))

-- what stands for itself is neither `x`, `u` nor `0`
pub record Plainly (v : ℕ) : Type 0 where
  pub no_x : eqb v 120 ≡ false
  pub no_u : eqb v 117 ≡ false
  pub no_zero : eqb v 48 ≡ false

itself_plainly : (v : ℕ) → escapes_itself v ≡ true → Plainly v
itself_plainly v h =
    let h9 = not-true _ h in
    let h8 = (or_parts _ (eqb v 118) h9).0 in
    let h7 = (or_parts _ (eqb v 102) h8).0 in
    let h6 = (or_parts _ (eqb v 98) h7).0 in
    let h5 = (or_parts _ (eqb v 114) h6).0 in
    let h4 = (or_parts _ (eqb v 116) h5).0 in
    let h3 = (or_parts _ (eqb v 110) h4).0 in
    let h2 = or_parts _ (eqb v 117) h3 in
    let h1 = or_parts _ (eqb v 120) h2.0 in
    let h0 = (or_parts (is_ascii_digit v) _ h1.0).0 in
    record {
      no_x = h1.1;
      no_u = h2.1;
      no_zero = ne_eqb v 48 (λ e. true≢false (subst (λ (k : ℕ). is_ascii_digit k ≡ false) e h0));
    }

simple_itself : (v : ℕ) (rest : List ℕ) → eqb v 48 ≡ false → escapes_itself v ≡ true → simple_escape v rest ≡ Some v
unfolding simple_escape
simple_itself v rest zero h = rw (zero, h) refl

itself_exact : (v : ℕ) (rest : List ℕ) → escapes_itself v ≡ true → escape_at (v ∷ rest) ≡ Some (v, 2)
unfolding escape_at
itself_exact v rest h =
    let other = itself_plainly v h in
    rw (other.no_x, other.no_u) (ap (with_len 2) (simple_itself v rest other.no_zero h))

plain_exact : (quote v : ℕ) (rest : List ℕ) → v ≢ quote → v ≢ 92 → v ≢ 10 → v ≢ 13 → part_at quote (v ∷ rest) ≡ Some (v, 1)
unfolding part_at
plain_exact quote v rest other slash lf cr = rw (ne_eqb v 92 slash, ne_eqb v quote other, ne_eqb v 10 lf, ne_eqb v 13 cr) refl

null_exact : (rest : List ℕ) → starts_with_digit rest ≡ false → escape_at (48 ∷ rest) ≡ Some (0, 2)
unfolding escape_at simple_escape
null_exact rest h = rw h refl

two_exact : (ds rest : List ℕ) (v : ℕ) → length ds ≡ 2 → AreHexOf ds v → escape_at (120 ∷ ds ++ rest) ≡ Some (v, 4)
unfolding escape_at
two_exact ds rest v l h = ap (with_len 4) (fixed_exact 2 ds rest v l h)

four_exact : (ds rest : List ℕ) (v : ℕ) → length ds ≡ 4 → AreHexOf ds v → escape_at (117 ∷ ds ++ rest) ≡ Some (v, 6)
unfolding escape_at unicode_at
four_exact ds rest v l h =
    rw (no_brace ds rest h.0 (λ e. four_some ds l e)) (ap (with_len 6) (fixed_exact 4 ds rest v l h))
  where
    four_some : (xs : List ℕ) → length xs ≡ 4 → xs ≡ [] → ⊥
    four_some xs l e = let l0 = ap length e in omega arith

braces_exact : (ds rest : List ℕ) (v : ℕ) → ds ≢ [] → AreHexOf ds v → escape_at (117 ∷ 123 ∷ ds ++ 125 ∷ rest) ≡ Some (v, length ds + 4)
unfolding escape_at unicode_at
braces_exact ds rest v some h = braced_exact ds rest v some h

behind_slash : (quote : ℕ) (cs : List ℕ) → part_at quote (92 ∷ cs) ≡ escape_at cs
unfolding part_at
behind_slash quote cs = refl

written_so : (quote : ℕ) (part : Part) (rest t : List ℕ) (n : ℕ) → part.written ≡ t → n ≡ length t → part_at quote (t ++ rest) ≡ Some (part.value, n) →
    part_at quote (part.written ++ rest) ≡ Some (part.value, length part.written)
written_so quote part rest t n e l h = rw (e, sym l) h

pub part_exact : (quote : ℕ) (part : Part) (rest : List ℕ) → IsPart quote part rest → part_at quote (part.written ++ rest) ≡ Some (part.value, length part.written)
part_exact quote part rest (plain w nq nb nl nr) = written_so quote part rest (part.value ∷ []) 1 w refl (plain_exact quote part.value rest nq nb nl nr)
part_exact quote part rest (named c w e) = written_so quote part rest (92 ∷ c ∷ []) 2 w refl (behind_slash quote (c ∷ rest) ∙ named_exact c part.value rest e)
part_exact quote part rest (null w v d) =
    written_so quote part rest (92 ∷ 48 ∷ []) 2 w refl (behind_slash quote (48 ∷ rest) ∙ (null_exact rest d ∙ ap (λ (x : ℕ). Some (x, 2)) (sym v)))
part_exact quote part rest (two ds w l h) =
    written_so quote part rest (92 ∷ 120 ∷ ds) 4 w (omega arith) (behind_slash quote (120 ∷ ds ++ rest) ∙ two_exact ds rest part.value l h)
part_exact quote part rest (four ds w l h) =
    written_so quote part rest (92 ∷ 117 ∷ ds) 6 w (omega arith) (behind_slash quote (117 ∷ ds ++ rest) ∙ four_exact ds rest part.value l h)
part_exact quote part rest (braced ds w some h) =
    written_so quote part rest (92 ∷ 117 ∷ 123 ∷ ds ++ 125 ∷ []) (length ds + 4) w (omega (arith, length-append ds (125 ∷ [])))
    (behind_slash quote _ ∙ (ap (λ l. escape_at (117 ∷ 123 ∷ l)) (append_assoc ds (125 ∷ []) rest) ∙ braces_exact ds rest part.value some h))
part_exact quote part rest (itself w e) = written_so quote part rest (92 ∷ part.value ∷ []) 2 w refl (behind_slash quote (part.value ∷ rest) ∙ itself_exact part.value rest e)

-- SOUND
-- the front of the text is the part that is read
pub record SoundPart (quote : ℕ) (cs : List ℕ) (c n : ℕ) : Type 0 where
  pub w : List ℕ
  pub rest : List ℕ
  pub split : cs ≡ w ++ rest
  pub len : n ≡ length w
  pub some : 0 < n
  pub is_part : IsPart quote (record { written = w; value = c }) rest

with_some : (len : ℕ) (o : Option ℕ) (q n : ℕ) → with_len len o ≡ Some (q, n) → (o ≡ Some q) × (n ≡ len)
with_some len None q n h = cc
with_some len (Some p) q n h =
    let same : ◌≡◌ {A = ℕ × ℕ} (p, len) (q, n) = cc in
    (ap (λ (z : ℕ × ℕ). Some z.0) same, sym (ap (λ (z : ℕ × ℕ). z.1) same))

when : {A : Type 0} (b : Bool) (x : Option A) (z : A) → cond b x None ≡ Some z → (b ≡ true) × (x ≡ Some z)
when true x z h = (refl, h)
when false x z h = cc

hex_sound : (ds : List ℕ) (v : ℕ) → hex_character ds ≡ Some v → AreHexOf ds v
unfolding hex_character
hex_sound ds v h =
    let first = when (list_all is_hex ds) (character (hex_value ds)) v h in
    let second = when (scalar (hex_value ds)) (Some (hex_value ds)) v first.1 in
    let same : hex_value ds ≡ v = cc in
    (first.0, same, subst (λ (k : ℕ). scalar k ≡ true) same second.0)

fixed_sound : (n : ℕ) (cs : List ℕ) (v : ℕ) → fixed_at n cs ≡ Some v → (length (take n cs) ≡ n) × AreHexOf (take n cs) v
unfolding fixed_at
fixed_sound n cs v h =
    let first = when (eqb (length (take n cs)) n) (hex_character (take n cs)) v h in
    (eqb-true (length (take n cs)) n first.0, hex_sound (take n cs) v first.1)

-- what is read behind `\\`
pub record SoundEscape (cs : List ℕ) (c n : ℕ) : Type 0 where
  pub w : List ℕ
  pub rest : List ℕ
  pub split : cs ≡ w ++ rest
  pub len : n ≡ length w + 1
  pub is_part : (quote : ℕ) → IsPart quote (record { written = 92 ∷ w; value = c }) rest

two_sound : (cs : List ℕ) (v n : ℕ) → with_len 4 (fixed_at 2 cs) ≡ Some (v, n) → SoundEscape (120 ∷ cs) v n
two_sound cs v n h =
    let parts = with_some 4 (fixed_at 2 cs) v n h in
    let digits = fixed_sound 2 cs v parts.0 in
    record {
      w = 120 ∷ take 2 cs;
      rest = drop 2 cs;
      split = ap (λ (l : List ℕ). 120 ∷ l) (sym (take-append-drop 2 cs));
      len = omega (arith, digits.0, parts.1);
      is_part = λ quote. two (take 2 cs) refl digits.0 digits.1;
    }

four_sound : (cs : List ℕ) (v n : ℕ) → with_len 6 (fixed_at 4 cs) ≡ Some (v, n) → SoundEscape (117 ∷ cs) v n
four_sound cs v n h =
    let parts = with_some 6 (fixed_at 4 cs) v n h in
    let digits = fixed_sound 4 cs v parts.0 in
    record {
      w = 117 ∷ take 4 cs;
      rest = drop 4 cs;
      split = ap (λ (l : List ℕ). 117 ∷ l) (sym (take-append-drop 4 cs));
      len = omega (arith, digits.0, parts.1);
      is_part = λ quote. four (take 4 cs) refl digits.0 digits.1;
    }

-- the rest of a text that begins with a character
pub begun : (c : ℕ) (cs : List ℕ) → begins_with c cs ≡ true → cs ≡ c ∷ drop 1 cs
begun c [] h = absurd (true≢false (sym h))
begun c (x ∷ xs) h = ap (λ (k : ℕ). k ∷ xs) (eqb-true x c h)

braces_sound : (cs : List ℕ) (v n : ℕ) → braced_at cs ≡ Some (v, n) → SoundEscape (117 ∷ 123 ∷ cs) v n
unfolding braced_at
braces_sound cs v n h =
    let m = prefix_len is_hex cs in
    let first = when (not (eqb m 0) && begins_with 125 (drop m cs)) (with_len (m + 4) (hex_character (take m cs))) (v, n) h in
    let tests = and_parts (not (eqb m 0)) (begins_with 125 (drop m cs)) first.0 in
    let parts = with_some (m + 4) (hex_character (take m cs)) v n first.1 in
    let size : length (take m cs) ≡ m = length-take-le m cs (prefix_len-le-length is_hex cs) in
    let some : m ≡ 0 → ⊥ = eqb-false m 0 (not-true (eqb m 0) tests.0) in
    record {
      w = 117 ∷ 123 ∷ take m cs ++ 125 ∷ [];
      rest = drop 1 (drop m cs);
      split = ap (λ (l : List ℕ). 117 ∷ 123 ∷ l)
          (sym (take-append-drop m cs) ∙ (ap (λ l. take m cs ++ l) (begun 125 (drop m cs) tests.1) ∙ sym (append_assoc (take m cs) (125 ∷ []) (drop 1 (drop m cs)))));
      len = omega (arith, length-append (take m cs) (125 ∷ []), size, parts.1);
      is_part = λ quote. braced (take m cs) refl (λ e. some (sym size ∙ ap length e)) (hex_sound (take m cs) v parts.0);
    }

unicode_sound : (cs : List ℕ) (v n : ℕ) → unicode_at cs ≡ Some (v, n) → SoundEscape (117 ∷ cs) v n
unfolding unicode_at
unicode_sound cs v n h =
    elim (cases_Bool (begins_with 123 cs)) [
      | inl e ↦
          let here : braced_at (drop 1 cs) ≡ Some (v, n) = rw e at h in
          subst (λ l. SoundEscape (117 ∷ l) v n) (sym (begun 123 cs e)) (braces_sound (drop 1 cs) v n here)
      | inr e ↦ four_sound cs v n (rw e at h)
    ]

simple_sound : (c : ℕ) (cs : List ℕ) (v : ℕ) → simple_escape c cs ≡ Some v → (quote : ℕ) → IsPart quote (record { written = 92 ∷ c ∷ []; value = v }) cs
unfolding simple_escape
simple_sound c cs v h quote =
    elim (cases_Bool (eqb c 48)) [
      | inl e ↦
          let zero = eqb-true c 48 e in
          let here : cond (starts_with_digit cs) None (Some 0) ≡ Some v = rw e at h in
          zero_sound (starts_with_digit cs) refl here zero
      | inr e ↦
          let here : cond (escapes_itself c) (Some c) (named_escape c) ≡ Some v = rw e at h in
          other_sound (escapes_itself c) refl here
    ]
  where
    zero_sound : (b : Bool) → starts_with_digit cs ≡ b → cond b None (Some 0) ≡ Some v → c ≡ 48 → IsPart quote (record { written = 92 ∷ c ∷ []; value = v }) cs
    zero_sound true is h0 zero = absurd (cc)
    zero_sound false is h0 zero = null (ap (λ (k : ℕ). 92 ∷ k ∷ []) zero) (cc) is

    other_sound : (b : Bool) → escapes_itself c ≡ b → cond b (Some c) (named_escape c) ≡ Some v → IsPart quote (record { written = 92 ∷ c ∷ []; value = v }) cs
    other_sound true is h0 =
        let same : c ≡ v = cc in
        itself (ap (λ (k : ℕ). 92 ∷ k ∷ []) same) (subst (λ (k : ℕ). escapes_itself k ≡ true) same is)
    other_sound false is h0 = named c refl h0

escape_sound : (cs : List ℕ) (v n : ℕ) → escape_at cs ≡ Some (v, n) → SoundEscape cs v n
unfolding escape_at
escape_sound [] v n h = absurd (cc)
escape_sound (c ∷ cs) v n h =
    elim (cases_Bool (eqb c 120)) [
      | inl x ↦ subst (λ (k : ℕ). SoundEscape (k ∷ cs) v n) (sym (eqb-true c 120 x)) (two_sound cs v n (rw x at h))
      | inr x ↦ elim (cases_Bool (eqb c 117)) [
        | inl u ↦ subst (λ (k : ℕ). SoundEscape (k ∷ cs) v n) (sym (eqb-true c 117 u)) (unicode_sound cs v n (rw (x, u) at h))
        | inr u ↦
            let here : with_len 2 (simple_escape c cs) ≡ Some (v, n) = rw (x, u) at h in
            let parts = with_some 2 (simple_escape c cs) v n here in
            record { w = c ∷ []; rest = cs; split = refl; len = parts.1; is_part = simple_sound c cs v parts.0 }
      ]
    ]

pub part_sound : (quote : ℕ) (cs : List ℕ) (c n : ℕ) → part_at quote cs ≡ Some (c, n) → SoundPart quote cs c n
unfolding part_at
part_sound quote [] c n h = absurd (cc)
part_sound quote (x ∷ cs) c n h =
    elim (cases_Bool (eqb x 92)) [
      | inl e ↦
          let found = escape_sound cs c n (rw e at h) in
          record {
            w = 92 ∷ found.w;
            rest = found.rest;
            split = ap (λ (k : ℕ). k ∷ cs) (eqb-true x 92 e) ∙ ap (λ (l : List ℕ). 92 ∷ l) found.split;
            len = omega (arith, found.len);
            some = omega (arith, found.len);
            is_part = found.is_part quote;
          }
      | inr e ↦ raw (eqb x quote || eqb x 10 || eqb x 13) refl (rw e at h) (eqb-false x 92 e)
    ]
  where
    raw : (b : Bool) → (eqb x quote || eqb x 10 || eqb x 13) ≡ b → cond {A = Option (ℕ × ℕ)} b None (Some (x, 1)) ≡ Some (c, n) → (x ≡ 92 → ⊥) → SoundPart quote (x ∷ cs) c n
    raw true is h0 slash = absurd (cc)
    raw false is h0 slash =
        let same : ◌≡◌ {A = ℕ × ℕ} (x, 1) (c, n) = cc in
        let here : x ≡ c = ap (λ (z : ℕ × ℕ). z.0) same in
        let size : 1 ≡ n = ap (λ (z : ℕ × ℕ). z.1) same in
        let parts = or_parts (eqb x quote || eqb x 10) (eqb x 13) is in
        let first = or_parts (eqb x quote) (eqb x 10) parts.0 in
        record {
          w = x ∷ [];
          rest = cs;
          split = refl;
          len = sym size;
          some = omega arith;
          is_part = plain (ap (λ (k : ℕ). k ∷ []) here) (λ q. eqb-false x quote first.0 (here ∙ q)) (λ q. slash (here ∙ q)) (λ q. eqb-false x 10 first.1 (here ∙ q)) (λ q. eqb-false x 13 parts.1 (here ∙ q));
        }

-- what is read stands within the text
pub part_within : (quote at : ℕ) (text : List ℕ) (o : Option (ℕ × ℕ)) → at ≤ length text → o ≡ part_at quote (drop at text) →
    IfSome o (λ part. (0 < part.1) × (at + part.1 ≤ length text))
part_within quote at text None fits is = tt
part_within quote at text (Some part) fits is =
    let found = part_sound quote (drop at text) part.0 part.1 (sym is) in
    (found.some, omega (arith, found.len, ap length found.split, length-append found.w found.rest, length-drop at text))
