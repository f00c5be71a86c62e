-- Document 02 (e): '100 LP are locked at the start'; the supply counts them. After `lock_lp_amount` of the original's instruction `initialize`.
use Rattle.std.specs.Prelude.{ℕ}

abbrev pub lock_lp_amount : ℕ
lock_lp_amount = 100
