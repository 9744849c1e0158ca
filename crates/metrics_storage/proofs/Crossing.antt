-- The parts of a block may cross threads as their values and their allocator may.
use Rattle.std.specs.Prelude.{ℕ, zero, suc, ◌+◌, List, [], ◌∷◌}
use Rattle.std.specs.Mem.{type_size}
use base.Fraction.{full_share}
use base.Shift.{Keyless}
use denote.RattleType.{RattleType}
use denote.RawPtr.{Ptr, block_ptr, null_ptr}
use denote.Slice.{elements_shared}
use denote.Struct.Struct.{exits_of}
use denote.Struct.Owning.{shape, fields, to}
use denote.Param.Send.{IsSend, IsSync, Common, AllSend, part_keyless, owning_send, struct_send, struct_sync, sendable}
use Rattle.core.specs.declared.alloc.Allocator.{Ghosts}
use Rattle.std_alloc.proofs.SendSync.{FreesAnywhere, quiet}
use Rattle.metrics_storage.specs.Ownership.{places, places_own, places_lent}
use Rattle.metrics_storage.specs.contracts.places.Places as Places
use Rattle.metrics_storage.specs.contracts.places.Allocation as Allocation

module _ (R : RattleType) where
  places-Keyless : IsSend R → (n b o : ℕ) (xs : List R.Denot) → Keyless (places R b o n xs)
  places-Keyless s n b o [] = tt
  places-Keyless s zero b o (x ∷ xs) = tt
  places-Keyless s (suc n) b o (x ∷ xs) = (part_keyless R s full_share x b o, places-Keyless s n b (o + type_size R) xs)

  own-Keyless : IsSend R → (p : Ptr) (xs : List R.Denot) → Keyless (places_own R p xs)
  own-Keyless s null_ptr xs = tt
  own-Keyless s (block_ptr b o) xs = (tt, places-Keyless s 64 b o xs)

  values-Common : IsSync R → (b o : ℕ) (xs : List R.Denot) → Common (elements_shared R xs b o)
  values-Common y b o [] κ = tt
  values-Common y b o (x ∷ xs) κ = (y.shared x b o κ, values-Common y b (o + type_size R) xs κ)

  lent-Common : IsSync R → (p : Ptr) (xs : List R.Denot) → Common (places_lent R p xs)
  lent-Common y null_ptr xs κ = tt
  lent-Common y (block_ptr b o) xs κ = (tt, values-Common y b o xs κ)

  pub Places-send : IsSend R → IsSend (Places.the_row R)
  Places-send s =
      let O = Places.the_type R in let each : AllSend (fields O) = (search sendable, tt) in
      owning_send O each (λ p. own-Keyless s p.at p.values) (λ k. quiet (to O) (exits_of k (fields O)) ((struct_send (shape O) each).leaving k))

  pub Places-sync : IsSync R → IsSync (Places.the_row R)
  Places-sync y = let O = Places.the_type R in record { shared = λ p b o κ. ((struct_sync (shape O) (search sendable, tt)).shared (to O p) b o κ, lent-Common y p.at p.values κ) }

  module _ (A : RattleType) (g : Ghosts A.Denot) where
    pub Allocation-send : FreesAnywhere A.Denot g → IsSend (Allocation.the_row R A g)
    Allocation-send f =
        let O = Allocation.the_type R A g in let each : AllSend (fields O) = (search sendable, tt) in
        owning_send O each (λ a. f.frees a.alloc _ a.at) (λ k. quiet (to O) (exits_of k (fields O)) ((struct_send (shape O) each).leaving k))

    pub Allocation-sync : IsSync (Allocation.the_row R A g)
    Allocation-sync = let O = Allocation.the_type R A g in record { shared = λ a b o κ. ((struct_sync (shape O) (search sendable, tt)).shared (to O a) b o κ, tt) }
