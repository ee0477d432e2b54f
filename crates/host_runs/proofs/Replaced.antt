-- Non-interference by replacement (specs/Replaced). No axiom.
use Rattle.octets.proofs.Vocabulary.{◌≡◌, refl, sym, ap, subst, ◌∙◌, ℕ, List, length}
use Rattle.sets.specs.Opening.{Board, BytesOf}
use Rattle.records.specs.Image.{device_of}
use Rattle.order.specs.Run.{run, answers}
use Rattle.promises.specs.Order.{step_locality}
use Rattle.board.specs.Exports.{Opens, Spots}
use Rattle.board.specs.Runs.{Call, Given, Runs, runs, gives, leaves, opening}
use Rattle.board.specs.Order.{told}
use Rattle.board.specs.Unnoticed.{kept, kept_of, Alike, unnoticed, unnoticed_by_page}
use Rattle.host_runs.specs.Replaced.{ReplacedByPage, Replaced}

module _ (b : Board) (lie : Spots) (k : ℕ) (bytes : BytesOf b) {start image : List ℕ} (long : length start ≡ 32) (o : Opens b start 0 image) where
  -- a run notices nothing of what is struck out: it is for k as the run of the calls left
  abbrev Unnoticed : {cs : List Call} {gs : List Given} {last : List ℕ} → Runs b lie image cs gs last → Type 0
  Unnoticed {cs} {gs} {last} r = (let left = kept b lie k image cs in (kept_of b lie k r ≡ told left (answers (gives b lie) (leaves b lie) image left)) × Alike b lie k last (run (leaves b lie) image left))

  alike-join : (p q r : List ℕ) → Alike b lie k p q → Alike b lie k r q → Alike b lie k p r
  alike-join p q r (s, e) (t, f) =
      let laws = step_locality b bytes ((opening long o).0 refl) in
      (laws.join k (device_of p) (device_of q) (device_of r) s (laws.turn k (device_of r) (device_of q) t), e ∙ sym f)

  -- so two that leave the same calls are for k alike
  joined : {xs ys : List Call} {gs hs : List Given} {last other : List ℕ} (one : Runs b lie image xs gs last) (two : Runs b lie image ys hs other)
      → kept b lie k image xs ≡ kept b lie k image ys → Unnoticed one → Unnoticed two → (kept_of b lie k one ≡ kept_of b lie k two) × Alike b lie k last other
  joined {ys = ys} {last = last} {other} one two same (e, r) (f, s) = (
    e ∙ ap (λ (l : List Call). told l (answers (gives b lie) (leaves b lie) image l)) same ∙ sym f,
    alike-join last (run (leaves b lie) image (kept b lie k image ys)) other (subst (λ (l : List Call). Alike b lie k last (run (leaves b lie) image l)) same r) s,
  )

pub replaced_by_page : ReplacedByPage
replaced_by_page b lie k bytes start image long o xs ys gs hs last other one p two q same =
    joined b lie k bytes long o one two same
    (unnoticed_by_page b lie k bytes long o one p (runs b lie image (kept b lie k image xs)))
    (unnoticed_by_page b lie k bytes long o two q (runs b lie image (kept b lie k image ys)))

pub replaced : Replaced
replaced b lie k bytes start image long o xs ys gs hs last other one p two q same =
    joined b lie k bytes long o one two same
    (unnoticed b lie k bytes long o one p (runs b lie image (kept b lie k image xs)))
    (unnoticed b lie k bytes long o two q (runs b lie image (kept b lie k image ys)))
