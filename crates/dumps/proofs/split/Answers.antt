-- `dumps::split` meets its contract: the dump splits as what is left of it does, and has as many bodies more. No axiom.
use Rattle.octets.proofs.Vocabulary.{ap, ◌∙◌, length, arith, lt-ltb}
use Rattle.dumps.proofs.Splitting.{dump-small, dump-broken, dump-splits, dump-bodies, dump-over, dump-none, split-broken, split-whole}
use Rattle.dumps.proofs.split.Goals as goal

pub returns-then-size-lt9 : goal.returns-then-size-lt9
returns-then-size-lt9 c =
    let dump = c.args.dump.now in
    let s = c.loop-at in
    let h = c.loop-at-test.true in
    let e = c.size_at-size.ensures.0 in
    split-broken dump (rw (lt-ltb 18 (length dump) s.invariant.2) (s.invariant.3 ∙ dump-small dump s.at h _ e c.if-size-lt9.true))

pub returns-then-dump-at : goal.returns-then-dump-at
returns-then-dump-at c =
    let dump = c.args.dump.now in
    let s = c.loop-at in
    let h = c.loop-at-test.true in
    let e = c.size_at-size.ensures.0 in
    split-broken dump (rw (lt-ltb 18 (length dump) s.invariant.2) (s.invariant.3 ∙ dump-broken dump s.at h _ e c.if-size-lt9.false c.if-dump-at.true))

pub loop-at-preserved : goal.loop-at-preserved
loop-at-preserved c =
    let dump = c.args.dump.now in
    let s = c.loop-at in
    let h = c.loop-at-test.true in
    let e = c.size_at-size.ensures.0 in (
      omega arith,
      omega arith,
      s.invariant.2,
      s.invariant.3 ∙ dump-splits dump s.at h _ e c.if-size-lt9.false c.if-dump-at.false,
      omega (arith, s.invariant.4, ap length (dump-bodies dump s.at h _ e c.if-size-lt9.false)),
    )

pub returns : goal.returns
returns c =
    let dump = c.args.dump.now in
    let s = c.loop-at in
    let l = c.loop-at-test.false in
    split-whole dump s.n (rw (lt-ltb 18 (length dump) s.invariant.2) (s.invariant.3 ∙ dump-over dump s.at l)) (omega (arith, s.invariant.4, ap length (dump-none dump s.at l)))
