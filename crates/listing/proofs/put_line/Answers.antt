-- `listing::put_line` meets its contract: what its own writer wrote in the lent buffer, the lent writer has written. No axiom.
use Rattle.octets.proofs.Vocabulary.{◌≡◌, refl, sym, ◌∙◌, List, ℕ}
use Rattle.std.proofs.Common.{rules}
use Rattle.buffers.specs.declared.Writer.{Writer}
use Rattle.buffers.specs.Written.{Wrote}
use Rattle.buffers.proofs.Written.{begun, next, wrote-both}
use Rattle.listing.proofs.put_line.Goals as goal

pub put_fields-requires : goal.put_fields-requires
put_fields-requires c = (next (begun _ _ c.requires) c.args.word.now _ refl c.put_bytes.ensures).room

-- the buffer comes back as its own writer left it
returned : {w own is : Writer} {text after : List ℕ} → own.out.now ≡ w.out.now → own.at ≡ w.at → Wrote own text is → (own.out.ghost_name ≡ is.out.ghost_name → after ≡ is.out.now)
    → Wrote w text (record { out = record w.out { now = after }; at = is.at })
returned bytes place r left = record { bytes = left (sym r.same) ∙ rw (← bytes, ← place) r.bytes; place = rw (← place) r.place; same = refl }

pub returns : goal.returns
returns c = returned refl refl (wrote-both c.put_bytes.ensures c.put_fields.ensures) (λ same. search rules)
