-- The kit's words that proofs here and in every crate over this one use: equality, numbers, lists, truth values, their laws, and what closes a need.
pub use mathlib.Core.Path.{◌∙◌, ◌≡◌, sym, refl, ap, subst}
pub use Prim.Native.Nat.{ℕ, ◌≤◌, ◌+◌, ◌<◌, ◌-◌, suc, zero, ◌*◌, ◌/◌, ◌%◌, ◌^◌, min}
pub use mathlib.Core.List.Memᴰ.{append_cases as List·Memᴰ·append-cases}
pub use mathlib.Core.List.Memᴰ.{cases_cons as List·Memᴰ·cases-cons}
pub use mathlib.Core.List.Memᴰ.{head as List·Memᴰ·head}
pub use mathlib.Core.List.Memᴰ.{not-nil as List·Memᴰ·not-nil}
pub use mathlib.Core.List.Memᴰ.{tail as List·Memᴰ·tail}
pub use mathlib.Core.List.{List, [], ◌∷◌, map, ◌++◌, Memᴰ as List-as-Memᴰ, append_assoc, append-nil, map-map}
unfoldable pub use mathlib.Core.List.{flat_map}
pub use mathlib.Core.Bool.{true, false, Bool, ◌&&◌, not, ◌||◌, false≢true, and-false, and-true, or-false, and_assoc, or_assoc, or-true, beq as Bool·beq}
pub use mathlib.Core.Option.{some, none, Option, map as Option·map, some-injective as Option·some-injective, none-ne-some as Option·none-ne-some}
pub use mathlib.Core.Logic.{inr, inl, ◌⊎◌, ⊎_elim}
pub use lib.ListN.{length, drop, take, get_or, length-drop, length-append, get_elem?, length-take, drop_of_length-le, set, replicate, length-map, length-set, get_or-eq_default as List·get_d-eq-default, take-append-drop, length-replicate, get_or-replicate, get_or-append as List·get_d-append}
pub use lib.Dec.{eqb, leb, ltb, T, lit<, lit≤, leb→le, nleb→lt, leb-zero as leb·zero, eqb-suc-suc as eqb·suc-suc, eqb-zero-suc as eqb·zero-suc, leb-suc-suc as leb·suc-suc}
pub use lib.Seq.{length-take-le, drop-drop, get_or-drop, get_or-take, drop-cons, take_all, take_at, get_or-set_other, sets-eq, take-length, get_or-set_same, take-append_seam, drop-append_seam, take-take, take-add, length-sets, drop_at, sets, drop-set-lt, paste, drop-paste, set-set, set_comm, set_out, ext_get_or, set-append_left, set-get_or, get_or-append-add, take-suc-set, take-set-lt, take-nil, drop-append-le, paste-zero, paste-suc, length-paste}
pub use native.Mathlib.Omega.{arith}
pub use native.Mathlib.Nat.{add-sub_cancel_left, zero-add, add-zero, div-div-eq-div-mul, sub-zero, lt_of_not-le, le_refl, not-suc-le-zero, le_of_eq, add_comm, pow-suc, le_of_suc-le-suc, div-one, mod-eq_of_lt, sub_self, min-eq_left, min-eq_right, zero-div, lt_of_lt_of_le, div-eq_of_lt, div_self, mul-div_cancel, pow-succ', one-mul, mul_comm, div-le_self, suc-mul, zero-mul, min-le_left, add-mul-mod_self_left}
pub use borrow.Author.Rules.{rules, length_unmapped}
pub use borrow.Author.Tests.{eq-eqb, ne_eqb, eqb-true, leb-true, le-leb, eqb-false, lt-ltb, ltb-true, lt-leb, le-ltb, ltb-false, not-true, not-false, leb-false}
