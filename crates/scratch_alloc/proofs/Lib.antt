pub mod SlotsBehind
pub mod EachSlot
pub mod SlotBanks
pub mod PlanPlaces
pub mod Serving
pub mod StandardPlan
