-- Loops over the items of a list that is used up: how many are left, and what the ones before add up to.
use Rattle.std.proofs.Common.{◌≡◌, ℕ, suc, ◌+◌, ◌<◌, ◌≤◌, arith}

pub none_yet : {done left all len : ℕ} → done ≡ 0 → left ≡ len → all ≡ len → done + left ≡ all
none_yet done left all = omega arith

pub one_done : (done : ℕ) {more left fewer all : ℕ} → done + left ≡ all → left ≡ suc fewer → more ≡ done + 1 → more + fewer ≡ all
one_done done was short longer = omega arith

pub all_done : {done left all len : ℕ} → done + left ≡ all → len ≡ left → len ≡ 0 → done ≡ all
all_done was len none = omega arith

pub one_fewer : {len left now fewer : ℕ} → len ≡ left → now + 1 ≡ len → left ≡ suc fewer → now ≡ fewer
one_fewer was step short = omega arith

pub room_for_one : {len done left fewer all room : ℕ} → len ≡ done → done + left ≡ all → left ≡ suc fewer → all ≤ room → len < room
room_for_one len was short room = omega arith

pub room_at_first : {done left all len room : ℕ} → done ≡ 0 → left ≡ len → all ≡ len → all ≤ room → done + left ≤ room
room_at_first none left all room = omega arith

pub room_for_next : {len done left fewer room : ℕ} → len ≡ done → done + left ≤ room → left ≡ suc fewer → len < room
room_for_next len room short = omega arith

pub room_after : (done : ℕ) {more left fewer room : ℕ} → done + left ≤ room → left ≡ suc fewer → more ≡ done + 1 → more + fewer ≤ room
room_after done room short longer = omega arith

pub nothing_more : (parts : ℕ) {done : ℕ} → done ≡ 0 → parts + done ≡ parts
nothing_more parts none = omega arith

pub one_back : (first done : ℕ) {more before now one : ℕ} → before ≡ first + done → now ≡ before + one → one ≡ 1 → more ≡ done + 1 → now ≡ first + more
one_back first done was merged one longer = omega arith

pub sum_back : (amount sum : ℕ) {before now back one all : ℕ} → before ≡ amount + sum → now ≡ before + back → back ≡ one → all ≡ sum + one → now ≡ amount + all
sum_back amount sum was merged is made = omega arith

pub none_back : {before now back amount : ℕ} → before ≡ amount → now ≡ before + back → back ≡ 0 → now ≡ amount
none_back was merged none = omega arith
