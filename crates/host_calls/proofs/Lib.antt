pub mod Same
pub mod CharacterLaws
pub mod CaptureLaws
pub mod PacketLaws
pub mod SenderLaws
pub mod ReceiverLaws
pub mod Refused
pub mod EventLaws
