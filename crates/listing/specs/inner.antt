-- What the walk of a listing leaves. The code is proved with it; no public promise is read by it.
pub mod Staging
