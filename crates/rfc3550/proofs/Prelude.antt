-- What proofs take from the toolchain's libraries, passed on under one name.
pub use Prim.Native.Nat.{◌%◌, ◌*◌, ◌+◌, ◌-◌, ◌/◌, ◌<◌, ◌^◌, ◌≤◌, min, suc, zero, ℕ}
pub use borrow.Author.Rules.{rules}
pub use borrow.Author.Tests.{eq-eqb, eqb-false, eqb-true, le-leb, le-ltb, leb-false, leb-true, lt-leb, lt-ltb, ltb-false, ltb-true, ne_eqb, not-false, not-true}
pub use lib.Arith.{digits_div, digits_lt, digits_mod, mod-mul}
pub use lib.Bits.{and_le_l, and_le_r, bit_or, or_add_and, or_lt}
pub use lib.Dec.{T, eqb, leb, ltb}
pub use lib.ListN.{drop, drop_of_length-le, get_or, length, length-append, length-drop, length-map, length-replicate, length-set, length-take, replicate, replicate-append-replicate, set, take, take-append-drop}
pub use lib.Pow.{pow-add}
pub use lib.Seq.{drop-append-add, drop-append-le, drop-append_seam, drop_at, drop-cons, drop-drop, drop-length, get_or-append-add, get_or_at, get_or-drop, get_or-take, length-take-le, set_at, sets, sets-eq, slice-cons, slice_empty, take-add, take_all, take-append-add, take-append-le, take-append_seam, take_at, take-length, take-nil, take-take}
pub use mathlib.Core.Bool.{Bool, ◌&&◌, ◌||◌, false, not, true, true≢false}
pub use mathlib.Core.List.{List, [], ◌++◌, ◌∷◌, append_assoc, append-nil, cons≢nil, head-eq_of_cons-eq, map, nil≢cons, tail-eq_of_cons-eq}
pub use mathlib.Core.Logic.{◌↔◌, ◌≢◌, ◌⊎◌, inl, inr, ⊎_elim}
pub use mathlib.Core.Path.{◌∙◌, ◌≡◌, ap, refl, subst, sym}
pub use native.Mathlib.Nat.{add_assoc, add-mul, add-sub_cancel_left, add-suc, add-zero, div-add-mod', div-one, le_of_suc-le-suc, mod-eq_of_lt, mod-lt, mul_assoc, mul_comm, mul-suc, mul-zero, not-suc-le-zero, one-le-pow, pow-suc, sub-zero, suc-mul, suc-sub-suc, zero-add, zero-mul, zero-sub}
pub use native.Mathlib.Numerals.{add-one}
pub use native.Mathlib.Omega.{arith}
