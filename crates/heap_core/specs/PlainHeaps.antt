-- What a plain heap means.
use Rattle.std.specs.Prelude.{◌^◌}
use Rattle.std.proofs.Common.{◌<◌, length, sym, ◌∙◌, arith}
use Rattle.heap_core.specs.Meaning.{Meaning, IsSound}
use Rattle.heap_core.specs.Plain.{values, overlaid, staged_of}
use Rattle.heap_core.specs.PlainLaws.{length-values, length-overlaid, length-staged_of, overlaid-unstaged, reads_numbered}
use Rattle.heap_core.specs.declared.traits.Program.{Ghosts}
use Rattle.heap_core.specs.declared.plain.PlainHeap.{PlainHeap}

module _ {P : Type 0} {G : Ghosts P} where
  -- a plain heap as data
  abbrev pub meaning_of : PlainHeap P G → Meaning P
  meaning_of h = record {
    version = h.version;
    is_open = h.is_open;
    committed = values h.committed.items;
    latest = overlaid h.committed.items h.pending.items;
    versions = h.versions.items;
    staged = staged_of h.pending.items;
  }

  -- it is sound
  pub plain_sound : (h : PlainHeap P G) → IsSound (Ghosts.fits G) (meaning_of h)
  plain_sound h = let cs = h.committed.items in let xs = h.pending.items in let some = h.some_entity in let many = h.as_many in record {
    some_entity = let l = length-values cs in omega arith;
    as_many = (length-overlaid cs xs ∙ sym (length-values cs), many.1 ∙ sym (length-values cs), length-staged_of xs ∙ (many.0 ∙ sym (length-values cs)));
    fit = h.fit;
    bounded = h.bounded;
    unstaged = λ e h. overlaid-unstaged cs xs e h;
    closed = h.closed;
    room = h.room;
  }

  -- its entities are numbered
  pub plain_numbered : (h : PlainHeap P G) → length (meaning_of h).committed < 2 ^ 32
  plain_numbered h = reads_numbered h.committed.items h.numbered
