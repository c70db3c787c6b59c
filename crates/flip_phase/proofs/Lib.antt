pub mod TrackLaws
pub mod RecordLaws
pub mod MainLaws
pub mod TurnLaws
pub mod PassLaws
pub mod FileLaws
pub mod MemberLaws
pub mod KeepLaws
