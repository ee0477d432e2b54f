-- `listing::put_accepted` meets its contract: the first line, and those of the configurations. No axiom.
use Rattle.octets.proofs.Vocabulary.{◌≡◌, refl, sym, ◌∙◌, ℕ, List, [], ◌∷◌, flat_map, length, length-map}
use Rattle.sets.specs.Contents.{body_of, bodies, entries_of}
use Rattle.listing.specs.Listing.{line, accepted_word, configuration_lines}
use Rattle.buffers.specs.declared.Writer.{Writer}
use Rattle.buffers.specs.Written.{Wrote}
use Rattle.buffers.proofs.Written.{begun, next, wrote-both}
use Rattle.listing.proofs.put_accepted.Goals as goal

abbrev first_line : List ℕ → List ℕ
first_line set = line accepted_word (length (bodies 2 set) ∷ [])

abbrev others : List ℕ → List ℕ
others set = flat_map configuration_lines (bodies 2 set)

counted : (set : List ℕ) (n : ℕ) → n ≡ length (entries_of 2 set) → n ≡ length (bodies 2 set)
counted set n e = e ∙ sym (length-map (entries_of 2 set) (body_of set))

-- the first line is written
headed : (set : List ℕ) (n : ℕ) {w is : Writer} → n ≡ length (entries_of 2 set) → Wrote w (line accepted_word (n ∷ [])) is → Wrote w (first_line set) is
headed set n e r = rw (counted set n e) at r

pub put_configurations-requires-clause-room : goal.put_configurations-requires-clause-room
put_configurations-requires-clause-room c =
    let set = c.args.set.now in
    (next (begun c.args.w.now _ c.requires.room) (first_line set) (others set) refl (headed set _ c.count_of-configurations.ensures c.put_line.ensures)).room

pub returns : goal.returns
returns c = wrote-both (headed c.args.set.now _ c.count_of-configurations.ensures c.put_line.ensures) c.put_configurations.ensures
